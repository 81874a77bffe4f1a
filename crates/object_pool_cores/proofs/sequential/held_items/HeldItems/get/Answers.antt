use Rattle.std.proofs.Common.{Some, ap, sym, ◌∙◌}
use Rattle.std.specs.HashMap.{get}
use Rattle.std.specs.Prelude.{nat_eq}
use Rattle.std.specs.Prelude.{option_map}
use Rattle.object_pool_cores.specs.Item.{item_value}
use Rattle.object_pool_cores.proofs.Cores.HeldTableSteps.{unwrap_or-listed}
use Rattle.object_pool_cores.proofs.sequential.held_items.HeldItems.get.Goals as goal

pub returns-in-Some : goal.returns-in-Some
returns-in-Some g c =
    let here = unwrap_or-listed (get nat_eq c.self.inside.items) c.self.inside.next c.args.index c.self.invariant in
    rw (← c.self.view_is) (ap Some c.deref.ensures ∙ ap (option_map item_value) (c.in-Some.ensures.value ∙ sym here))

pub returns-in-None : goal.returns-in-None
returns-in-None g c =
    let here = unwrap_or-listed (get nat_eq c.self.inside.items) c.self.inside.next c.args.index c.self.invariant in
    rw (← c.self.view_is) (ap (option_map item_value) (c.in-None.ensures.value ∙ sym here))
