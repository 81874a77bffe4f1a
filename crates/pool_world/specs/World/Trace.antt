-- The trace: what the answers to a list of events show of the pool.
use Rattle.std.specs.Prelude.{◌≡◌, ◌⊎◌, ℕ, ◌==◌, if◌then◌else◌, Option, Some, None, List, [], ◌∷◌, Ok, ⊤}
use Rattle.pool_parts.specs.declared.page.history.Operation.TheVariants.{Pull, Return}
use Rattle.pool_world.specs.declared.interleave.event.Event.{Event}
use Rattle.pool_world.specs.declared.interleave.event.Event.TheVariants as event
use Rattle.pool_world.specs.declared.interleave.event.Seen.{Seen}
use Rattle.pool_world.specs.declared.interleave.event.Seen.TheVariants as seen
use Rattle.pool_world.specs.Run.{Act, Opens, Writes, Operates, Grows, Refused}

-- events with their answers, of which the last stands first
abbrev pub Log : Type 0 → Type 0
Log T = List (Event T × Seen)

-- an answer that shows nothing of the pool
abbrev pub IsHidden : Seen → Type 0
IsHidden (seen.Began a) = ⊥
IsHidden (seen.Pulled a n) = ⊥
IsHidden (seen.Wrote a) = ⊥
IsHidden (seen.Returned a n) = ⊥
IsHidden (seen.Linked a) = ⊥
IsHidden (seen.Refused a cause) = ⊥
IsHidden _ = ⊤

module _ {T : Type 0} where
  -- the values of the last page that the agent made
  abbrev pub last_made : Log T → ℕ → Option (List T)
  last_made [] a = None
  last_made ((event.MakePage b (Ok values), seen.Made c) ∷ log) a = if b == a then Some values else last_made log a
  last_made (_ ∷ log) a = last_made log a

  -- the answer shows this act, with the value of the event, or the values that the agent made
  -- before
  abbrev pub Shows : Log T → Event T → Seen → Act T → Type 0
  Shows log e (seen.Began a) act = act ≡ Opens a
  Shows log e (seen.Pulled a n) act = (value : T) × (act ≡ Operates (Pull a n value))
  Shows log (event.Write b value) (seen.Wrote a) act = act ≡ Writes a value
  Shows log e (seen.Returned a n) act = (kept : T) × (act ≡ Operates (Return a n kept))
  Shows log e (seen.Linked a) act =
      (values : List T) × (last_made log a ≡ Some values) × (act ≡ Grows a values)
  Shows log e (seen.Refused a cause) act = act ≡ Refused a cause
  Shows log e _ act = ⊥

  -- the acts are the trace of the log: what its answers show, one after another
  abbrev pub IsTraceOf : Log T → List (Act T) → Type 0
  IsTraceOf [] acts = acts ≡ []
  IsTraceOf ((e, answer) ∷ log) acts =
      (IsHidden answer × IsTraceOf log acts)
      ⊎ ((act : Act T) × (older : List (Act T)) × (acts ≡ act ∷ older) × Shows log e answer act
      × IsTraceOf log older)
