use Rattle.std.proofs.Common.{◌≡◌, ◌+◌, ◌≤◌, reverse, length}
use Rattle.std.specs.Prelude.{vec_len, vec_capacity}
use Rattle.pool_world.specs.World.Capacity.{KeepsCapacity}
use Rattle.pool_world.proofs.World.RunsEvents.{Replayed}
use Rattle.pool_world.proofs.interleave.world.World.run.Given as goal

abbrev pub invariant-loop-event : goal.invariant-loop-event
invariant-loop-event g l = record {
  replayed : Replayed (g.R.Reset.leaves l.fn.self.reset) l.fn.self.state l.fn.events.items l.fn.seen.items
      (reverse l.events.items) l.seen.items l.self.state;
  kept : KeepsCapacity l.fn.self.capacity l.self.capacity;
  same_reset : l.self.reset ≡ l.fn.self.reset;
  -- an answer came for each event that is done, and the room for answers is no less
  count : vec_len l.seen + vec_len l.events ≡ vec_len l.fn.seen + vec_len l.fn.events;
  room : vec_capacity l.fn.seen ≤ vec_capacity l.seen;
}

abbrev pub decreases-loop-event : goal.decreases-loop-event
decreases-loop-event g l = length l.events.items
