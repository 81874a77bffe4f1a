use Rattle.std.proofs.Common.{arith}
use Rattle.pool_parts.proofs.PageSteps.{witnesses}
use Rattle.pool_parts.proofs.page.items.Items.witness.Goals as goal

pub split_seat-requires : goal.split_seat-requires
split_seat-requires g c =
    (c.requires, omega (arith, c.args.self.now.covered, c.args.self.now.some_item), witnesses _ _ _ _ _)
