-- A slot may be shared among threads where its value may.
use denote.RattleType.{RattleType}
use denote.Ref.{NamedLft}
use denote.Param.Send.{IsSend, IsSync, struct_sync, shr_sync, view_sync, sendable}
use denote.Param.SendFields.{as_row_sync, declared_sync}
use denote.Struct.Field.{row_field, shr_ref_field}
use denote.Struct.Declared.{shape}
use Rattle.pool_parts.proofs.SeatShared.{seat_sync}
use Rattle.pool_parts.specs.declared.clean.Clean.{Ghosts}
use Rattle.pool_parts.specs.contracts.page.holding.Holding as Holding
use Rattle.pool_parts.specs.contracts.page.slot.PageSlot as PageSlot
use Rattle.pool_parts.specs.contracts.page.slot.PageSlot.TheInside as SlotInside
use Rattle.pool_parts.specs.contracts.page.owned_slot.OwnedSlot as OwnedSlot
use Rattle.pool_parts.specs.contracts.page.owned_slot.OwnedSlot.TheInside as OwnedInside
use Rattle.pool_parts.proofs.page.shared_page.Page.TheSendSync as page
use Rattle.std.proofs.Crossing.{crosses, Arc-sync}
use Rattle.std.specs.contracts.alloc.Global as Global
use Rattle.std.specs.contracts.impls.GlobalAllocator.TheImpl as GlobalAllocator
use Rattle.std.specs.contracts.option.Option as OptionRow
use Rattle.std.specs.contracts.sync.Arc as Arc
use Rattle.pool_parts.specs.contracts.page.shared_page.Page as Page
use Rattle.pool_parts.specs.contracts.page.user_view.UserView as UserView

-- what the holder of an item has names no thread
pub holding_sync : (T : RattleType) → IsSend T → IsSync (Holding.the_field T).row
holding_sync T sent =
    let item : IsSend (OptionRow.the_row T) = search (sendable, crosses) depth 20 in
    let seat = seat_sync (OptionRow.the_row T) (UserView.the_row T) item in
    struct_sync (shape (Holding.the_type T)) (record { shared = seat.shared }, (search sendable, tt))

module _ (T K : RattleType) (clean : Ghosts K.Denot T.Denot) where
  pub slot_sync : (κ : NamedLft) → IsSend T → IsSync T → IsSync (PageSlot.the_row κ T K clean)
  slot_sync κ sent shared =
      let page = as_row_sync (shr_ref_field κ (Page.the_row T K clean) tt) (shr_sync _ _ _ (page.the_sync T K clean sent)) in
      view_sync (SlotInside.the_row κ T K clean) _ _ _ _
      (declared_sync (SlotInside.the_type κ T K clean)
      (page, (as_row_sync (Holding.the_field T) (holding_sync T sent), (as_row_sync (row_field T) shared, tt))))

  pub owned_slot_sync : IsSend T → IsSync T → IsSync (OwnedSlot.the_row T K clean)
  owned_slot_sync sent shared =
      let page = Arc-sync (Page.the_row T K clean) (page.the_send T K clean sent) (page.the_sync T K clean sent) in
      view_sync (OwnedInside.the_row T K clean) _ _ _ _
      (declared_sync (OwnedInside.the_type T K clean) (
        as_row_sync (row_field (Arc.the_row (Page.the_row T K clean) Global.the_row GlobalAllocator.ghosts)) page,
        (as_row_sync (Holding.the_field T) (holding_sync T sent), (as_row_sync (row_field T) shared, tt)),
      ))
