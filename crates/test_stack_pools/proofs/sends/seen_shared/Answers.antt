use denote.Param.Send.{sendable}
use Rattle.history_lock.proofs.SeenShared.{seen_sync}
use Rattle.test_stack_pools.proofs.sends.seen_shared.Goals as goal

pub shared-requires-sync-X : goal.shared-requires-sync-X
shared-requires-sync-X g c κs within = search (sendable, seen_sync)
