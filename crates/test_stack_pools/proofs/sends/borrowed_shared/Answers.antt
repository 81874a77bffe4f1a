use denote.Param.Send.{sendable}
use Rattle.std.proofs.Crossing.{crosses}
use Rattle.stack_pools.proofs.StackShared.{reusable_sync}
use Rattle.stack_pools.proofs.stack_object_pool.StackObjectPool.TheSendSync.{the_sync}
use Rattle.test_stack_pools.proofs.sends.borrowed_shared.Goals as goal

pub shared-requires-sync-X : goal.shared-requires-sync-X
shared-requires-sync-X g c κs within = search (sendable, crosses, reusable_sync, the_sync) depth 30
