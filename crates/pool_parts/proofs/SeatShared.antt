-- A seat may be shared among threads where the values of its table may be sent.
use denote.RattleType.{RattleType}
use denote.Param.Send.{IsSend, IsSync, part_keyless}
use Rattle.atomic_table.specs.contracts.shared.Seat as seat
use Rattle.atomic_table.proofs.shared.Seat.TheSendSync.{the_send}

-- what a seat owns names no thread
pub seat_sync : (S V : RattleType) → IsSend S → IsSync (seat.the_row S V)
seat_sync S V s = record { shared = λ view b o κ q. part_keyless (seat.the_row S V) (the_send S V s) q view b o }
