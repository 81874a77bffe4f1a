use Rattle.pool_laws.proofs.Counterexamples.{zeros, too_early, both_zero, order-matters, in-order, names-matter}
use Rattle.pool_laws.proofs.laws.premises.Goals as goal

pub returns : goal.returns
returns g = record {
  order = (zeros, too_early, order-matters);
  names = (zeros, both_zero, in-order, names-matter);
}
