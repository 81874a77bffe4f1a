use denote.Param.Send.{sendable}
use Rattle.linear_pools.proofs.ReusableShared.{reusable_sync}
use Rattle.pool_parts.proofs.closures.ready.Copied.TheSendSync as copied
use Rattle.pool_parts.proofs.closures.ready.Keep.TheSendSync as keep
use Rattle.examples.proofs.calling.shared.read_twice.Goals as goal

pub join-requires-send-F : goal.join-requires-send-F
join-requires-send-F g c κs within =
    search (sendable, reusable_sync, copied.the_sync, keep.the_sync) depth 30
