use Rattle.std.proofs.Common.{◌≡◌, length, min, ◌+◌, ◌≤◌}
use Rattle.kept_values.specs.Kept.{kept_values, IsFullChain}
use Rattle.kept_values.proofs.stack.Stack.kept.Given as goal

-- the counted places and those to come are all, up to the count's end
abbrev pub invariant-loop-next : goal.invariant-loop-next
invariant-loop-next g l =
    (min (l.count + length (kept_values l.next)) 18446744073709551615 ≡ min
    (length l.initial.self) 18446744073709551615) × (l.count ≤ 18446744073709551615) × IsFullChain l.next
