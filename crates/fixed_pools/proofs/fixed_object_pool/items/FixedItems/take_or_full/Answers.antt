use Rattle.fixed_pools.proofs.fixed_object_pool.items.FixedItems.take_or_full.Goals as goal

pub returns-in_err-taken-clause-outcome : goal.returns-in_err-taken-clause-outcome
returns-in_err-taken-clause-outcome g c =
    rw (c.from_residual.ensures, ← c.of-first.ensures) c.in_err-taken.ensures.outcome
