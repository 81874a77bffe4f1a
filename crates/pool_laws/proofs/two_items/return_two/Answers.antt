use Rattle.pool_laws.specs.Names.{pool_user}
use Rattle.pool_laws.proofs.Names.{pool_users}
use Rattle.pool_laws.proofs.Together.{returns-together}
use Rattle.pool_laws.proofs.two_items.return_two.Goals as goal

pub returns-clause-together : goal.returns-clause-together
returns-clause-together g c =
    returns-together pool_user pool_users _ _ _ _ _ _ _ _ _ _ _ _ c.requires.apart c.requires.one
    c.requires.other c.give_back-of_one.ensures.given c.give_back-of_other.ensures.given
    c.give_back-of_one.ensures.each_returned c.give_back-of_other.ensures.each_returned
