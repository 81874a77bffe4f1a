-- What a world's answers say.
use Rattle.std.specs.Prelude.{◌≡◌, List, map, reverse}
use Rattle.pool_world.specs.declared.interleave.event.Event.{Event}
use Rattle.pool_world.specs.declared.interleave.event.Seen.{Seen}
use Rattle.pool_world.specs.World.Headline.{IsNew, IsRun}
use Rattle.pool_world.specs.World.State.{WorldState}
use Rattle.pool_world.specs.World.Trace.{Log}

-- these events have these answers in a run of one pool, which opened as this world shows it
pub record AnswersAsOnePool {T : Type 0} (Leaves : T → T → Type 0) (opening : WorldState T)
    (events : List (Event T)) (seen : List Seen) : Type 0 where
  pub is_new : IsNew opening
  pub log : Log T
  pub world : WorldState T
  pub run : IsRun Leaves is_new.first log world
  pub of_events : map (λ entry. entry.0) (reverse log) ≡ events
  pub of_answers : map (λ entry. entry.1) (reverse log) ≡ seen
