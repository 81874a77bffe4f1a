use Rattle.pool_laws.proofs.Moves.{lead, led, by-holders}
use Rattle.pool_laws.proofs.laws.moves.Goals as goal

pub returns : goal.returns
returns g c = record {
  leads = λ first acts full legal. (by-holders first full acts legal, lead first full acts legal);
  led = λ first acts pool full holders leads. led first full acts pool holders leads;
}
