use Rattle.std.proofs.Common.{◌≡◌, Some, map, length, All}
use Rattle.pool_world.specs.World.Inside.Prepared.{values_of}
use Rattle.pool_world.proofs.interleave.prepared.Prepared.make.Given as goal

abbrev pub invariant-loop-index : goal.invariant-loop-index
invariant-loop-index g l = record {
  all : l.places.items ≡ map Some (values_of l.places.items);
  count : length (values_of l.places.items) ≡ l.index;
  given : All (λ value. g.I.Fn.post l.init tt (Some value)) (values_of l.places.items);
}
