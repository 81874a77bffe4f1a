use Rattle.std.proofs.Common.{◌-◌, ◌∷◌, ◌∙◌, ap, sum}
use Rattle.test_stack_pools.proofs.lock_history.read_after.Goals as goal

pub returns-clause-after : goal.returns-clause-after
returns-clause-after g c =
    let after = c.lock_after-value.ensures.after in
    let zero = c.lock_after-value.result.0 - sum c.lock_after-value.result.1.history in
    (zero ∷ after.0, ap (λ k. k.history) c.release.ensures ∙ ap (λ l. zero ∷ l) after.1)
