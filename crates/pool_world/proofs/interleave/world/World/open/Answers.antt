use Rattle.std.proofs.Common.{refl}
use Rattle.pool_world.specs.Laws.WorldBounds.{new-past}
use Rattle.pool_world.proofs.interleave.world.World.open.Goals as goal

pub invariant_of-result : goal.invariant_of-result
invariant_of-result g c =
    rw c.in-Ok.ensures.opening
    (new-past _ _
    (record { first = c.args.first; full = c.in-Ok.ensures.whole; allowed = c.requires; same = refl }))
