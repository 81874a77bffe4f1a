use Rattle.std.proofs.Common.{arith}
use Rattle.pool_parts.proofs.PageSteps.{tells}
use Rattle.pool_parts.proofs.page.items.Items.tell.Goals as goal

pub join_seat-requires : goal.join_seat-requires
join_seat-requires g c = (
  c.requires.note,
  c.requires.other,
  c.args.other.carries_none,
  omega (arith, c.args.self.now.covered, c.args.self.now.some_item),
  tells _ _ _ _ _ _ _ c.args.note.now.here,
)
