use Rattle.std.proofs.Common.{◌∙◌, ap, arith}
use Rattle.atomic_table.specs.Seated.{TableId}
use Rattle.fixed_pools.proofs.FixedAnswers.{begins_new, found_busy, knows_all_out}
use Rattle.fixed_pools.proofs.fixed_object_pool.items.FixedItems.try_pull.Goals as goal

pub returns-in_default-clause-busy : goal.returns-in_default-clause-busy
returns-in_default-clause-busy g c =
    let pass = c.in_default.ensures in
    found_busy _ _ _ _ (begins_new _ _ _ _ _ _ c.look-word.ensures.items pass.outcome.missed.goes_on.same_user
    c.look-word.ensures.found) pass.outcome.missed pass.steps

pub invariant_of-result : goal.invariant_of-result
invariant_of-result g c =
    let same = ap (λ (pool : TableId). pool.slots) (c.take_in_pass.ensures.steps.same_pool ∙ c.look-word.ensures.items) in
    ∣ (λ id within. knows_all_out _ _ _ c.look-word.ensures.found.sound c.in_default.ensures.outcome.missed id
    (omega arith)) ∣₁
