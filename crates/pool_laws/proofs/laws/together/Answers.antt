use Rattle.pool_laws.proofs.Together.{all-together}
use Rattle.pool_laws.proofs.laws.together.Goals as goal

pub returns : goal.returns
returns g c = λ name values histories count names full legal. all-together name names values histories full legal count
