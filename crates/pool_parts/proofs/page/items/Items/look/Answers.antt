use Rattle.pool_parts.proofs.PageSteps.{loads}
use Rattle.pool_parts.proofs.page.items.Items.look.Goals as goal

pub load_new_seat-word-requires : goal.load_new_seat-word-requires
load_new_seat-word-requires g c = (c.requires, loads _ _ _ _ _)
