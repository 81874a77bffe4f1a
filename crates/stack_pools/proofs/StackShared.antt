-- A note may be shared among threads, and so may a stack reusable where its value and what it has of its pool may.
use denote.RattleType.{RattleType}
use denote.Param.Send.{IsSync, view_sync}
use denote.Param.SendFields.{as_row_sync, declared_sync}
use denote.Struct.Field.{row_field}
use Rattle.history_lock.proofs.SeenShared.{badge_sync}
use Rattle.history_lock.specs.contracts.rule.Visitor as Visitor
use Rattle.kept_values.proofs.RoomShared.{room_sync}
use Rattle.stack_pools.specs.contracts.operation.Operation as Operation
use Rattle.stack_pools.specs.contracts.stack_note.StackNote as StackNote
use Rattle.stack_pools.specs.contracts.stack_note.StackNote.TheInside as NoteInside
use Rattle.stack_pools.specs.declared.stack_reusable.SharedStackPool.{Ghosts}
use Rattle.stack_pools.specs.contracts.stack_reusable.StackReusable as StackReusable
use Rattle.stack_pools.specs.contracts.stack_reusable.StackReusable.TheInside as Inside

pub note_sync : (T : RattleType) → IsSync (StackNote.the_row T)
note_sync T =
    view_sync (NoteInside.the_row T) _ _ _ _
    (declared_sync (NoteInside.the_type T) (badge_sync (Visitor.the_row (Operation.the_row T)), tt))

pub reusable_sync : (T P W : RattleType) (pool : Ghosts P.Denot T.Denot) → IsSync T → IsSync P → IsSync W
    → IsSync (StackReusable.the_row T P W pool)
reusable_sync T P W pool shared pool_shared permission_shared =
    view_sync (Inside.the_row T P W pool) _ _ _ _
    (declared_sync (Inside.the_type T P W pool) (
      as_row_sync (row_field P) pool_shared,
      (
        as_row_sync (row_field W) permission_shared,
        (note_sync T, (room_sync T shared, (as_row_sync (row_field T) shared, tt))),
      ),
    ))
