use Rattle.pool_laws.proofs.Growth.{full-out}
use Rattle.pool_laws.proofs.laws.full_page.Goals as goal

pub returns : goal.returns
returns g c = λ name first steps page from to names full order pages below there was.
    full-out name first full names steps order pages page below from to there was
