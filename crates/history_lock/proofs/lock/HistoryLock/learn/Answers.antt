use Rattle.std.proofs.Common.{◌∙◌, ◌++◌, sym, ap}
use Rattle.history_lock.specs.LockRule.{Guest}
use Rattle.history_lock.proofs.Prefixes.{one_is_prefix}
use Rattle.history_lock.proofs.LockSteps.{merges, looks}
use Rattle.history_lock.proofs.lock.HistoryLock.learn.Goals as goal

pub join_seat-requires : goal.join_seat-requires
join_seat-requires g c =
    let mine = c.into_seat-seat.ensures in
    let theirs = c.into_seat.ensures in (
      mine.table ∙ c.requires.of ∙ sym c.self.view_is,
      theirs.table ∙ c.requires.other_of ∙ sym c.self.view_is,
      theirs.passing.1,
      (looks g.L.Law.leaves _ 1 0 c.into_seat-seat.result.me c.self.invariant.0 mine.passing.0).0,
      merges g.L.Law.leaves c.into_seat-seat.result.id c.into_seat.result.id c.into_seat-seat.result.me.0
          c.into_seat.result.me.0 theirs.passing.0,
    )

pub load-requires : goal.load-requires
load-requires g c =
    let T = g.row.T.Denot in
    let E = g.row.E.Denot in
    let mine = c.into_seat-seat.ensures in
    let joined = c.join_seat.ensures in
    let done = looks g.L.Law.leaves _ c.self.inside.table.shared.table_id.slots c.join_seat.new.seat.id
    c.join_seat.new.seat.me c.self.invariant.0 (ap (λ (me : Guest T E). me.0.holds) joined.2 ∙ mine.passing.0) in
    (joined.0 ∙ mine.table ∙ c.requires.of ∙ sym c.self.view_is, done.0, done.1)

pub returns-clause-one : goal.returns-clause-one
returns-clause-one g c =
    let T = g.row.T.Denot in
    let E = g.row.E.Denot in
    let look = c.load.ensures.2 in
    let joined = c.join_seat.ensures.2 in
    let from = ap (λ (me : Guest T E). me.0.history) joined ∙ c.into_seat-seat.ensures.history in
    let merged = ap (λ (me : Guest T E). me.0.merged) joined ∙ c.into_seat.ensures.history in
    one_is_prefix c.args.seen.history c.args.other.history c.load.new.seat.me.0.history
    (look.goes_on.0, look.goes_on.1 ∙ ap (λ l. look.goes_on.0 ++ l) from)
    (look.after_merged.0, look.after_merged.1 ∙ ap (λ l. look.after_merged.0 ++ l) merged)
