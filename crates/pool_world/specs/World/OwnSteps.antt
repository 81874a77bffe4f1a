-- An agent's own steps in a list of events.
use Rattle.std.specs.Prelude.{◌≡◌, ℕ, ◌+◌, Bool, true, false, if◌then◌else◌, Option, Some, [], ◌∷◌, ⊤, nat_eq}
use Rattle.std.specs.Option.{option_eq}
use Rattle.pool_world.specs.declared.interleave.event.Event.{Event}
use Rattle.pool_world.specs.declared.interleave.event.Seen.{Seen}
use Rattle.pool_world.specs.declared.interleave.event.Seen.TheVariants as seen
use Rattle.pool_world.specs.declared.interleave.point.Point.{Point}
use Rattle.pool_world.specs.declared.interleave.point.Point.TheVariants.{Reading, Clearing, AtLink}
use Rattle.pool_world.specs.declared.interleave.point.Point.TheVariants.{ClearingHinted, Making, Linking}
use Rattle.pool_world.specs.World.Machine.{event_agent}
use Rattle.pool_world.specs.World.Trace.{Log}

-- an answer with which nothing happened
abbrev pub is_idle : Seen → Bool
is_idle seen.NotEnabled = true
is_idle seen.NoMemory = true
is_idle _ = false

module _ {T : Type 0} where
  -- the event is a step of the agent: it names it, and something happened
  abbrev pub is_step_of : Event T → Seen → ℕ → Bool
  is_step_of e answer a = if is_idle answer then false else option_eq nat_eq (event_agent e) (Some a)

  -- how many steps of the agent there are
  abbrev pub own_steps : Log T → ℕ → ℕ
  own_steps [] a = 0
  own_steps ((e, answer) ∷ log) a = if is_step_of e answer a then own_steps log a + 1 else own_steps log a

  -- an agent is on page k: it reads the word, or clears bits
  abbrev pub IsAtPage : ℕ → Option (Point T) → Type 0
  IsAtPage k (Some (Reading j asked)) = j ≡ k
  IsAtPage k (Some (Clearing j mask asked)) = j ≡ k
  IsAtPage k _ = ⊥

  -- an agent is on the page that a hint named
  abbrev pub IsAtHintedPage : Option (Point T) → Type 0
  IsAtHintedPage (Some (ClearingHinted hint mask)) = ⊤
  IsAtHintedPage _ = ⊥

  -- an agent has neither taken a number nor been refused
  abbrev pub IsLooking : Option (Point T) → Type 0
  IsLooking (Some (Reading k asked)) = ⊤
  IsLooking (Some (Clearing k mask asked)) = ⊤
  IsLooking (Some (AtLink k asked)) = ⊤
  IsLooking (Some (ClearingHinted hint mask)) = ⊤
  IsLooking (Some (Making k)) = ⊤
  IsLooking (Some (Linking k values)) = ⊤
  IsLooking _ = ⊥
