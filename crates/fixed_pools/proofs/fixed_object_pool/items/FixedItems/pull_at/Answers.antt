use Rattle.std.proofs.Common.{arith}
use Rattle.fixed_pools.proofs.FixedAnswers.{begins_new, item_pulled}
use Rattle.fixed_pools.proofs.fixed_object_pool.items.FixedItems.pull_at.Goals as goal

pub returns : goal.returns
returns g c =
    let took = c.in_ok-value.ensures.outcome in
    item_pulled g.K.Clean.meets _ 1 1 _ c.look-word.result.1 _
    (begins_new _ _ _ _ _ _ c.look-word.ensures.items took.0.goes_on.same_user c.look-word.ensures.found) took.0
    (record {
      same_pool = c.clear.ensures.items;
      loads = omega (arith, took.1);
      tries = omega (arith, took.2);
    })
    (omega (arith, c.requires.in_pool))
