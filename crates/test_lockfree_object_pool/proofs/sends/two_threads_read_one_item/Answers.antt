use denote.Param.Send.{sendable}
use Rattle.fixed_pools.proofs.FixedShared.{borrowed_reusable_sync}
use Rattle.pool_parts.proofs.closures.ready.Copied.TheSendSync as copied
use Rattle.test_lockfree_object_pool.proofs.sends.two_threads_read_one_item.Goals as goal

pub read_twice-requires-sync-X : goal.read_twice-requires-sync-X
read_twice-requires-sync-X g c κs = search (sendable, borrowed_reusable_sync, copied.the_sync) depth 30
