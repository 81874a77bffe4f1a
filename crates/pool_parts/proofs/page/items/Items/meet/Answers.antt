use Rattle.std.proofs.Common.{arith}
use Rattle.pool_parts.proofs.PageSteps.{meets_other}
use Rattle.pool_parts.proofs.page.items.Items.meet.Goals as goal

pub load-requires : goal.load-requires
load-requires g c = (
  c.requires.items,
  omega (arith, c.args.self.now.covered, c.args.self.now.some_item),
  meets_other _ _ _ _ _ _ _ c.requires.here,
)
