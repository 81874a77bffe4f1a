use Rattle.std.proofs.Common.{◌≡◌, ◌-◌, ◌<◌, ◌≤◌, [], None}
use Rattle.fixed_pools.specs.FixedCount.{GoesOver, PassesOver, is_beside}
use Rattle.fixed_pools.proofs.fixed_object_pool.items.FixedItems.scan.Given as goal

abbrev pub invariant-loop-page : goal.invariant-loop-page
invariant-loop-page g l = record {
  carries_none : l.seat.me.1 ≡ [];
  holds_none : l.seat.me.0.held ≡ None;
  steps : GoesOver (l.page - l.from) 0 l.fn.seat l.seat;
  fewer_steps : l.from ≤ l.skipped → l.skipped < l.page → GoesOver (l.page - l.from - 1) 0 l.fn.seat l.seat;
  missed : PassesOver (is_beside l.from l.page l.skipped) l.returns l.fn.seat.me l.seat.me;
}
