-- That caches stay the same over several steps, and that returns stay known.
use Rattle.std.proofs.Common.{◌∙◌, sym, ap, List, ◌++◌, append_assoc}
use Rattle.std.specs.Prelude.{⊤, All}
use Rattle.std.proofs.lemmas.List.Elements.{All-weaker}
use Rattle.pool_parts.specs.Ledger.{History, IsPrefixOf}
use Rattle.pool_parts.specs.Page.{view_of}
use Rattle.pool_parts.specs.declared.page.holding.Holding.{Holding}
use Rattle.pool_parts.specs.declared.page.note.PageNote.{PageNote}
use Rattle.fixed_pool_c.specs.Caches.{IsSameCache, IsReturnedIn}
use Rattle.fixed_pool_c.specs.declared.open_cache.OpenCache.{OpenCache}

-- a cache that is the same as one that is the same
pub same_through : (one two three : OpenCache) → IsSameCache one two → IsSameCache two three → IsSameCache one three
same_through one two three first then = record {
  same_pool = then.same_pool ∙ first.same_pool;
  same_tag = then.same_tag ∙ first.same_tag;
  same_room = then.same_room ∙ first.same_room;
}

-- a prefix of a prefix
prefix_through : (one two three : History ⊤) → IsPrefixOf one two → IsPrefixOf two three → IsPrefixOf one three
prefix_through one two three first then =
    (then.0 ++ first.0, then.1 ∙ ap (λ history. then.0 ++ history) first.1 ∙ sym (append_assoc then.0 first.0 one))

-- what a note knew to have come back, one that knows more knows too
pub still_returned : (old new : PageNote ⊤) (returned : List (Holding ⊤))
    → IsPrefixOf (view_of old.seat).operations (view_of new.seat).operations → All (IsReturnedIn old) returned
    → All (IsReturnedIn new) returned
still_returned old new returned more = All-weaker (IsReturnedIn old) (IsReturnedIn new) (λ holding known. record {
  return = known.return;
  given_back = known.given_back;
  known = prefix_through _ _ _ known.known more;
}) returned
