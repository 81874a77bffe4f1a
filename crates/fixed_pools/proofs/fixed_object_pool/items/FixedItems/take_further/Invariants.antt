use Rattle.std.proofs.Common.{◌+◌, ◌*◌}
use Rattle.fixed_pools.specs.FixedCount.{GoesOver}
use Rattle.fixed_pools.specs.FixedPool.{pool_of}
use Rattle.fixed_pools.proofs.FixedRounds.{HasPassed}
use Rattle.fixed_pools.proofs.fixed_object_pool.items.FixedItems.take_further.Given as goal

abbrev pub invariant-loop : goal.invariant-loop
invariant-loop g l = record {
  -- each pass but the first one was made after a return
  passed : HasPassed l.start (pool_of l.self).words (pool_of l.self).slots l.before l.counter l.fn.first.value.me
      l.seat.me;
  steps : GoesOver ((pool_of l.self).words * (l.counter + 1)) 1 l.fn.first.value l.seat;
}
