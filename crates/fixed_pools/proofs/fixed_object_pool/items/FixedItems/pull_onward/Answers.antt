use Rattle.std.proofs.Common.{◌∙◌}
use Rattle.fixed_pools.proofs.FixedAnswers.{begins, item_pulled_on}
use Rattle.fixed_pools.proofs.fixed_object_pool.items.FixedItems.pull_onward.Goals as goal

pub returns-in-Some-clause-pulled : goal.returns-in-Some-clause-pulled
returns-in-Some-clause-pulled g c =
    let taken = c.in-Some.ensures in
    item_pulled_on g.K.Clean.meets _ _ _ _ (begins _ _ _ _ _ (c.look_again-word.ensures.items ∙ c.requires.note)
    c.look_again-word.ensures.found) taken.outcome taken.steps
