use Rattle.std.proofs.Common.{◌≡◌, ◌-◌, ◌∷◌, ◌∙◌, ap, arith, sum}
use Rattle.test_stack_pools.proofs.lock_history.add.Goals as goal

pub returns-in-Some-clause-added : goal.returns-in-Some-clause-added
returns-in-Some-clause-added g c =
    let before = c.lock-value.result.1.history in
    let same : c.in-Some.sum - sum before ≡ c.args.amount =
    omega (arith, c.lock-value.ensures.left, c.in-Some.ensures) in
    (before, ap (λ k. k.history) c.release.ensures ∙ ap (λ n. n ∷ before) same)
