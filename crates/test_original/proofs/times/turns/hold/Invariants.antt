use Rattle.std.proofs.Common.{◌≡◌, length}
use Rattle.test_original.proofs.times.turns.hold.Given as goal

abbrev pub invariant-loop : goal.invariant-loop
invariant-loop g l = length l.items.items ≡ l.counter
