use Rattle.std.specs.Prelude.{◌≡◌}
use Rattle.std.specs.Arc.{arc_value}
use Rattle.fixed_pools.specs.FixedPool.{fixed_view}
use Rattle.examples.proofs.documented.owners.turns.Given as goal

-- the note is of the owner's pool
abbrev pub invariant-loop : goal.invariant-loop
invariant-loop l = l.note.seat.table_id ≡ (fixed_view (arc_value l.owner)).identity
