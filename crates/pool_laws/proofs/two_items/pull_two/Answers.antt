use Rattle.pool_laws.specs.Names.{pool_user}
use Rattle.pool_laws.proofs.Names.{pool_users}
use Rattle.pool_laws.proofs.Together.{pulls-together}
use Rattle.pool_laws.proofs.two_items.pull_two.Goals as goal

pub returns-clause-together : goal.returns-clause-together
returns-clause-together g c = λ differ.
    pulls-together pool_user pool_users _ _ _ _ _ _ _ _ differ c.in_ok-one.ensures.pulled c.in_ok-other.ensures.pulled
