use Rattle.pool_parts.proofs.WordBits.{low_half_is}
use Rattle.pool_parts.proofs.page.word.low_half.Goals as goal

pub returns : goal.returns
returns c = low_half_is c.args.word
