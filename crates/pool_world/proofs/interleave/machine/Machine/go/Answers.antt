use Rattle.pool_world.proofs.World.LinkCapacity.{room-moved}
use Rattle.pool_world.proofs.interleave.machine.Machine.go.Goals as goal

pub invariant_of-self : goal.invariant_of-self
invariant_of-self g c = room-moved _ _ c.args.agent c.args.point c.self.invariant c.requires.room
