-- A round keeps the pool, the tag and the room. What was kept is still kept, or is known to have come
-- back.
use Rattle.std.proofs.Common.{◌≡◌, List, ◌++◌, vec_len}
use Rattle.std.specs.Prelude.{⊤, All}
use Rattle.pool_parts.specs.declared.page.holding.Holding.{Holding}
use Rattle.fixed_pool_c.specs.Caches.{IsSameCache, IsReturnedIn, kept}
use Rattle.fixed_pool_c.proofs.open_cache.OpenCache.flush.Given as goal

abbrev pub invariant-loop-holding : goal.invariant-loop-holding
invariant-loop-holding l =
    IsSameCache l.fn.self l.self
    × ((returned : List (Holding ⊤)) × (kept l.fn.self ≡ kept l.self ++ returned) × All (IsReturnedIn l.self.note) returned)

abbrev pub decreases-loop-holding : goal.decreases-loop-holding
decreases-loop-holding l = vec_len l.self.kept
