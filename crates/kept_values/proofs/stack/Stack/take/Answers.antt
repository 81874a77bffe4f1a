use Rattle.std.proofs.Common.{sym, ◌∙◌}
use Rattle.kept_values.proofs.KeptPlaces.{rest_of_full_chain}
use Rattle.kept_values.proofs.stack.Stack.take.Goals as goal

pub invariant_of-self-2 : goal.invariant_of-self-2
invariant_of-self-2 g c =
    let first = c.in_ok-place.place in
    rw c.take-2.ensures.value (rw c.deref_mut.ensures.value
    (rest_of_full_chain g.K.Clean.meets c.self.inside.head first
    (sym c.take.ensures.value ∙ c.in_ok-place.was) c.self.invariant))
