use Rattle.std.proofs.Common.{◌≡◌, length, ◌∙◌, sym, rules}
use Rattle.std.specs.Vec.{vec_len}
use Rattle.object_pool_cores.proofs.Cores.NumberedSteps.{pages_of}
use Rattle.object_pool_cores.proofs.sequential.numbered_items.NumberedItems.pages.Goals as goal

pub returns : goal.returns
returns g c =
    let count : vec_len c.self.inside.pages ≡ length c.self.inside.pages.items = search rules in
    rw (← c.self.view_is) (c.len.ensures ∙ count ∙ sym (pages_of c.self.inside.pages.items c.self.invariant.0))
