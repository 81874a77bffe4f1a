use Rattle.std.proofs.Common.{arith}
use Rattle.pool_world.proofs.World.LowestBit.{lowest_is}
use Rattle.pool_world.proofs.interleave.moves.split_lowest.Goals as goal

pub returns-in-Some-clause-lowest : goal.returns-in-Some-clause-lowest
returns-in-Some-clause-lowest c = lowest_is _ _ (omega arith) c.requires c.in-Some.ensures.least
