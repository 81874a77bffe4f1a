use Rattle.std.specs.HashMap.{get}
use Rattle.std.specs.Prelude.{nat_eq}
use Rattle.object_pool_cores.proofs.Cores.HeldTableSteps.{IsReplaced-listed}
use Rattle.object_pool_cores.proofs.sequential.held_items.HeldItems.replace.Goals as goal

pub returns : goal.returns
returns g c =
    let replaced = c.replace_value.ensures in
    rw (← c.self.view_is)
    (IsReplaced-listed (get nat_eq c.self.inside.items)
    (get nat_eq c.replace_value.new.items) c.self.inside.next c.args.index c.args.value _ c.self.invariant
    replaced.there replaced.here replaced.others)
