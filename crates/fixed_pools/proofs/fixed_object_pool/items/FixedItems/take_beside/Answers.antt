use Rattle.std.proofs.Common.{ℕ, ◌≤◌, arith, subst}
use Rattle.fixed_pools.specs.FixedCount.{is_beside, PassesOver}
use Rattle.fixed_pools.proofs.PoolWords.{both_segments}
use Rattle.fixed_pools.proofs.FixedCounts.{passes_join, takes_later}
use Rattle.fixed_pools.proofs.fixed_object_pool.items.FixedItems.take_beside.Goals as goal
use Rattle.fixed_pools.proofs.fixed_object_pool.items.FixedItems.take_beside.Goals.{in-Round, in-LowFirst, in-Hinted, in-Ok, in-Err+in-Ok-scan}

pub returns-in-Err-scan-clause-outcome : goal.returns-in-Err-scan-clause-outcome
returns-in-Err-scan-clause-outcome g c =
    let items = c.args.self.now in
    let next : ℕ = c.match-order.next in
    let words : ℕ = items.shared.table.shared.table_id.words in
    let in_pool = c.requires.in_pool in
    let within : next ≤ words = elim c.match-order.branch [
      | in-Round w ↦ omega (arith, w.next-is, in_pool)
      | in-LowFirst w ↦ omega (arith, w.next-is, w.lowest-next.ensures)
      | in-Hinted w ↦ omega (arith, w.next-is, w.hinted-next.ensures)
    ] in
    let behind = subst (λ pages. PassesOver (is_beside next pages c.args.start) c.in-Err.behind c.args.seat.now.me
    c.scan.new.seat.me) items.paged c.in-Err.ensures.outcome in
    passes_join _ _ _ (both_segments next words c.args.start within) _ _ _ _ _ behind c.in-Err-scan.ensures.outcome

pub returns-clause-outcome : goal.returns-clause-outcome
returns-clause-outcome g c = elim c.match-scan.branch [
  | in-Ok w ↦ rw (w.seat-is, w.taken-is) w.in-Ok.ensures.outcome
  | in-Err+in-Ok-scan w ↦ rw (w.seat-is, w.taken-is) (takes_later g.K.Clean.meets _ _ _ _ _ _
      w.in-Err.ensures.outcome.reads_on w.in-Ok-scan.ensures.outcome)
]
