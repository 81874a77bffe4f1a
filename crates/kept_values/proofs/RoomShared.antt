-- A room may be shared among threads where its values may.
use denote.RattleType.{RattleType}
use denote.Param.Send.{IsSync, view_sync, sendable}
use denote.Param.SendFields.{declared_sync}
use Rattle.std.proofs.Crossing.{crosses, Box-sync}
use Rattle.kept_values.specs.contracts.stack.Room as Room
use Rattle.kept_values.specs.contracts.stack.Room.TheInside as Inside
use Rattle.kept_values.specs.contracts.stack.node.Node as Node
use Rattle.kept_values.proofs.stack.node.Node.TheLaws.TheKnot as knot

node_sync : (T : RattleType) → IsSync T → IsSync (Node.the_row T)
node_sync T shared = search (sendable, crosses, knot.sync-Node) depth 20

pub room_sync : (T : RattleType) → IsSync T → IsSync (Room.the_row T)
room_sync T shared =
    view_sync (Inside.the_row T) _ _ _ _
    (declared_sync (Inside.the_type T) (Box-sync (Node.the_row T) (node_sync T shared), tt))
