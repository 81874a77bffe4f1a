use Rattle.pool_laws.proofs.Merging.{merge}
use Rattle.pool_laws.proofs.laws.merge.Goals as goal

pub returns : goal.returns
returns g c = λ name first steps names full order pages. merge name first full names steps order pages
