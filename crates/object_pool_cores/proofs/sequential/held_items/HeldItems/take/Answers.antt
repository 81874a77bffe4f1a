use Rattle.std.proofs.Common.{None, sym, ◌∙◌}
use Rattle.std.specs.HashMap.{get}
use Rattle.std.specs.Prelude.{nat_eq}
use Rattle.std.proofs.lemmas.Bool.{ne_eqb}
use Rattle.object_pool_cores.proofs.Cores.HeldTableSteps.{unwrap_or-listed, listed-set, OnSome-always}
use Rattle.object_pool_cores.proofs.sequential.held_items.HeldItems.take.Goals as goal

pub returns-clause-item : goal.returns-clause-item
returns-clause-item g c =
    rw (← c.self.view_is)
    (c.remove.ensures.value
    ∙ sym (unwrap_or-listed (get nat_eq c.self.inside.items) c.self.inside.next c.args.index c.self.invariant))

pub returns-clause-held : goal.returns-clause-held
returns-clause-held g c =
    let updates = c.remove.ensures.updates in
    let index = c.args.index in
    rw (← c.self.view_is) (OnSome-always c.remove.result
    (listed-set (get nat_eq c.self.inside.items)
    (get nat_eq c.remove.new.self) c.self.inside.next index None updates.1
    (λ k differ. updates.2 k (ne_eqb index k (λ e. differ (sym e))))))
