use Rattle.std.proofs.Common.{arith}
use Rattle.std.proofs.lemmas.Result.{MatchResult-weaker}
use Rattle.fixed_pools.proofs.FixedCounts.{missed_reads, passes_all, takes_later}
use Rattle.fixed_pools.proofs.fixed_object_pool.items.FixedItems.take_in_pass.Goals as goal

pub returns-clause-outcome : goal.returns-clause-outcome
returns-clause-outcome g c =
    let first = c.in_default.ensures.outcome in
    MatchResult-weaker c.take_beside.result c.take_beside.ensures.outcome
    (λ taken takes. takes_later g.K.Clean.meets _ _ _ _ _ _ (missed_reads _ _ _ _ first) takes)
    (λ returns passes. passes_all _ _ _ _ _ _ (omega (arith, c.args.self.now.shared.covered)) first passes)
