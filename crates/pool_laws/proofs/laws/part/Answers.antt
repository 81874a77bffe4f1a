use Rattle.pool_laws.proofs.Parts.{part, merges-again}
use Rattle.pool_laws.proofs.laws.part.Goals as goal

pub returns : goal.returns
returns g c = record {
  order = λ first acts full legal. (part first full acts legal).0;
  pages = λ first acts full legal. (part first full acts legal).1;
  again = λ first acts. merges-again first acts;
}
