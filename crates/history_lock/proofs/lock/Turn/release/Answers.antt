-- That the store which frees the lock keeps the lock's rule, and that the section's operation is
-- then the last one of the history.
use Rattle.std.proofs.Common.{◌∷◌, Some, sym, ◌∙◌, ap, subst}
use Rattle.atomic_table.specs.Table.{rest}
use Rattle.history_lock.specs.History.{Known}
use Rattle.history_lock.specs.LockRule.{Guest}
use Rattle.history_lock.proofs.LockSteps.{frees}
use Rattle.history_lock.proofs.lock.Turn.release.Goals as goal

pub store-requires : goal.store-requires
store-requires g c =
    let T = g.row.T.Denot in
    let E = g.row.E.Denot in
    let adds = g.S.Section.adds in
    let value = c.args.value in
    let is = c.exchange.ensures.3 in
    let carries = ap (λ (me : Guest T E). me.1) is ∙ ap (λ l. (0, Some value) ∷ rest l) c.self.invariant.2 in
    let held = ap (λ (me : Guest T E). me.0.holds) is ∙ c.self.invariant.1 in
    let from = ap (λ (me : Guest T E). me.0.history) is ∙ ap (λ (k : Known E). k.history) c.self.view_is in
    let left = subst (λ l. g.L.Law.leaves (adds l value ∷ l) value) (sym from) c.requires in
    let done = frees g.L.Law.leaves adds _ c.lock.inside.table.shared.table_id.slots c.exchange.new.seat.id
    c.exchange.new.seat.me value c.lock.invariant.0 held carries left in
    (c.exchange.ensures.0 ∙ c.self.invariant.0 ∙ sym c.lock.view_is, done.0, done.1)

pub into_badge-requires : goal.into_badge-requires
into_badge-requires g c =
    let T = g.row.T.Denot in
    let E = g.row.E.Denot in
    let carries = ap (λ (me : Guest T E). me.1) c.exchange.ensures.3
    ∙ ap (λ l. (0, Some c.args.value) ∷ rest l) c.self.invariant.2 in
    let after = c.store.ensures.2 c.args.value carries in
    ap (λ (me : Guest T E). me.1) after
