use denote.Param.Send.{sendable}
use Rattle.pool_parts.proofs.SlotShared.{slot_sync}
use Rattle.test_pages.proofs.page.sharing.read_twice.Goals as goal

pub join-requires-send-F : goal.join-requires-send-F
join-requires-send-F g c κs within = search (sendable, slot_sync) depth 20
