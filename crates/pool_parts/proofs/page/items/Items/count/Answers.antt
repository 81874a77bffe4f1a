use Rattle.std.proofs.Common.{arith}
use Rattle.pool_parts.proofs.PageSteps.{counts}
use Rattle.pool_parts.proofs.page.items.Items.count.Goals as goal

pub load-word-requires : goal.load-word-requires
load-word-requires g c = (
  c.requires.items,
  omega (arith, c.requires.in_items),
  counts _ _ _ _ _ _ _ c.requires.counts
      c.requires.here,
)
