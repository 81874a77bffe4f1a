use Rattle.std.proofs.Common.{◌∙◌, ap, arith}
use Rattle.atomic_table.specs.Seated.{TableId}
use Rattle.fixed_pools.proofs.FixedAnswers.{begins, found_busy, item_pulled, knows_all_out}
use Rattle.fixed_pools.proofs.fixed_object_pool.items.FixedItems.pull_from.Goals as goal

pub returns-clause-pulled : goal.returns-clause-pulled
returns-clause-pulled g c =
    let pass = c.in-Ok.ensures in
    item_pulled g.K.Clean.meets _ _ 1 _ _ _ (begins _ _ _ _ _ (c.look_again-word.ensures.items ∙ c.requires)
    c.look_again-word.ensures.found) pass.outcome pass.steps (omega arith)

pub returns-in_default-clause-busy : goal.returns-in_default-clause-busy
returns-in_default-clause-busy g c =
    let pass = c.in_default.ensures in
    found_busy _ _ _ _ (begins _ _ _ _ _ (c.look_again-word.ensures.items ∙ c.requires) c.look_again-word.ensures.found)
    pass.outcome.missed pass.steps

pub invariant_of-result : goal.invariant_of-result
invariant_of-result g c =
    let same = ap (λ (pool : TableId). pool.slots) (c.take_in_pass.ensures.steps.same_pool
    ∙ c.look_again-word.ensures.items ∙ c.requires) in
    ∣ (λ id within. knows_all_out _ _ _ c.look_again-word.ensures.found.sound c.in_default.ensures.outcome.missed id
    (omega arith)) ∣₁
