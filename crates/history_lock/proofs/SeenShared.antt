-- What somebody knows of a lock may be shared among threads.
use denote.RattleType.{RattleType}
use denote.Param.Send.{IsSync, part_keyless, view_sync}
use denote.Param.SendFields.{declared_sync}
use Rattle.atomic_table.specs.contracts.badge.Badge as badge
use Rattle.atomic_table.proofs.badge.Badge.TheSendSync.{the_send}
use Rattle.history_lock.specs.contracts.rule.Visitor as Visitor
use Rattle.history_lock.specs.contracts.seen.Seen as Seen
use Rattle.history_lock.specs.contracts.seen.Seen.TheInside as Inside

-- what a badge owns names no thread
pub badge_sync : (V : RattleType) → IsSync (badge.the_row V)
badge_sync V = record { shared = λ view b o κ q. part_keyless (badge.the_row V) (the_send V) q view b o }

pub seen_sync : (E : RattleType) → IsSync (Seen.the_row E)
seen_sync E =
    view_sync (Inside.the_row E) _ _ _ _ (declared_sync (Inside.the_type E) (badge_sync (Visitor.the_row E), tt))
