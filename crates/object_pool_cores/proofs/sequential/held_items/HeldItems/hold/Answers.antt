use Rattle.std.proofs.Common.{Some, refl, sym}
use Rattle.std.specs.HashMap.{get}
use Rattle.std.specs.Prelude.{nat_eq}
use Rattle.std.proofs.lemmas.Bool.{ne_eqb}
use Rattle.object_pool_cores.proofs.Cores.HeldTableSteps.{length-listed, listed-push}
use Rattle.object_pool_cores.proofs.sequential.held_items.HeldItems.hold.Goals as goal

pub returns-clause-held : goal.returns-clause-held
returns-clause-held g c =
    let updates = c.in-Ok.ensures.updates in
    let next = c.self.inside.next in
    rw (← c.self.view_is)
    (listed-push (get nat_eq c.self.inside.items)
    (get nat_eq c.insert.new.self) next _ (Some c.args.item) refl updates.1
    (λ k differ. updates.2 k (ne_eqb next k (λ e. differ (sym e)))))

pub returns-clause-index : goal.returns-clause-index
returns-clause-index g c =
    rw (← c.self.view_is) (sym (length-listed (get nat_eq c.self.inside.items) c.self.inside.next))
