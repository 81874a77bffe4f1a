use Rattle.pool_laws.proofs.Names.{pool_users}
use Rattle.pool_laws.proofs.laws.names.Goals as goal

pub returns : goal.returns
returns g = pool_users
