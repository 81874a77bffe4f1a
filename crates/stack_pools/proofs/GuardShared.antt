-- A guard may be shared where its value may be sent and shared.
use denote.Ref.{NamedLft}
use denote.Builtin.{unit}
use denote.RattleType.{RattleType}
use denote.Param.Send.{IsSend, IsSync, shr_sync, view_sync}
use denote.Param.SendFields.{as_row_send, as_row_sync, declared_sync, variants_send}
use denote.Struct.Field.{row_field, shr_ref_field}
use Rattle.std.specs.contracts.option.Option as Option
use Rattle.pool_parts.proofs.SeatShared.{seat_sync}
use Rattle.history_lock.specs.declared.law.Law as Law
use Rattle.history_lock.specs.contracts.lock.Turn as turn
use Rattle.history_lock.specs.contracts.lock.Turn.TheInside as inside
use Rattle.history_lock.specs.contracts.lock.HistoryLock as lock
use Rattle.history_lock.proofs.lock.HistoryLock.TheSendSync.{the_sync as lock_sync}
use Rattle.stack_pools.specs.contracts.spin_lock.SpinLockGuard as guard
use Rattle.stack_pools.specs.contracts.spin_lock.SpinLockGuard.TheInside as guard_inside
use Rattle.stack_pools.specs.contracts.spin_lock.unrecorded.NoLaw as NoLaw

turn_sync : (κ : NamedLft) (T E L : RattleType) (law : Law.Ghosts L.Denot T.Denot E.Denot) → IsSend T
    → IsSync (turn.the_row κ T E L law)
turn_sync κ T E L law s =
    let lock = as_row_sync (shr_ref_field κ (lock.the_row T E L law) tt) (shr_sync _ _ _ (lock_sync T E L law s)) in
    let seat = seat_sync (Option.the_row T) _ (search (variants_send, as_row_send, s)) in
    view_sync (inside.the_row κ T E L law) _ _ _ _ (declared_sync (inside.the_type κ T E L law) (lock, (seat, tt)))

pub guard_sync : (κ : NamedLft) (T : RattleType) → IsSend T → IsSync T → IsSync (guard.the_row κ T)
guard_sync κ T s y =
    view_sync (guard_inside.the_row κ T) _ _ _ _
    (declared_sync (guard_inside.the_type κ T)
    (turn_sync κ T unit NoLaw.the_row _ s, (as_row_sync (row_field T) y, tt)))
