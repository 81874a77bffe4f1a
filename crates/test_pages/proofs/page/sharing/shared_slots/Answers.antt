use mir.Syntax.{named}
use denote.Param.{param}
use Rattle.pool_parts.proofs.SlotShared.{slot_sync, owned_slot_sync}
use Rattle.test_pages.proofs.page.sharing.shared_slots.Goals as goal

pub shared-requires-sync-X : goal.shared-requires-sync-X
shared-requires-sync-X g c κs within = record {
  shared =
      (slot_sync (param 0 g.row.T) (param 1 g.row.K) g.K.Clean (record {
        mir = named 0;
        lft =
            _;
      }) c.type_bounds.send-T c.type_bounds.sync-T).shared;
}

pub shared-requires-2-sync-X : goal.shared-requires-2-sync-X
shared-requires-2-sync-X g c κs within = record {
  shared =
      (owned_slot_sync (param 0 g.row.T) (param 1 g.row.K) g.K.Clean c.type_bounds.send-T c.type_bounds.sync-T).shared;
}
