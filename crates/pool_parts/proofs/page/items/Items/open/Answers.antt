use Rattle.std.proofs.Common.{refl}
use Rattle.pool_parts.proofs.PageOpens.{opens}
use Rattle.pool_parts.proofs.page.items.Items.open.Goals as goal

pub new-requires : goal.new-requires
new-requires g c =
    rw c.of-2.ensures
    (opens g.K.Clean.meets c.args.words.now _ c.requires.all_free c.requires.meets c.args.raise
    c.of.result.value.items (rw c.of.ensures refl))
