-- An agent that runs solo: no other agent steps meanwhile.
use Rattle.std.specs.Prelude.{◌≡◌, ◌≢◌, ◌⊎◌, ℕ, zero, suc, ◌+◌, ◌*◌, ◌<◌, ◌≤◌, Some, List, [], ◌∷◌, map, length, IsSome}
use Rattle.std.specs.Prelude.{slice_get, Ok, Err, ⊤}
use Rattle.pool_parts.specs.declared.pull_error.PullError.TheVariants.{Limit}
use Rattle.pool_world.specs.declared.interleave.event.Event.{Event}
use Rattle.pool_world.specs.declared.interleave.event.Event.TheVariants as event
use Rattle.pool_world.specs.declared.interleave.event.Seen.{Seen}
use Rattle.pool_world.specs.declared.interleave.event.Seen.TheVariants as seen
use Rattle.pool_world.specs.World.State.{WorldPageState, WorldState}
use Rattle.pool_world.specs.World.Machine.{held_by, word_of, event_agent}
use Rattle.pool_world.specs.World.Trace.{Log}
use Rattle.pool_world.specs.World.OwnSteps.{own_steps}

module _ {T : Type 0} where
  -- the event is this agent's, also one that wasn't enabled, and no memory was missing
  pub record IsOwnEvent (a : ℕ) (e : Event T) (answer : Seen) : Type 0 where
    pub own : event_agent e ≡ Some a
    pub memory : answer ≢ seen.NoMemory

  -- the event asks no page by a hint
  abbrev pub AsksNoHint : Event T → Seen → Type 0
  AsksNoHint (event.ReadHinted a hint) answer = answer ≡ seen.NotEnabled
  AsksNoHint _ answer = ⊤

  -- a page that the event asks for was made
  abbrev pub BringsPage : Event T → Seen → Type 0
  BringsPage (event.MakePage a (Err cause)) answer = answer ≡ seen.NotEnabled
  BringsPage _ answer = ⊤

  -- P is true of each event with its answer
  abbrev pub EachEvent : (Event T → Seen → Type 0) → Log T → Type 0
  EachEvent P [] = ⊤
  EachEvent P ((e, answer) ∷ log) = P e answer × EachEvent P log

  -- one of the events was answered so
  abbrev pub IsAnswered : Log T → Seen → Type 0
  IsAnswered [] answer = ⊥
  IsAnswered ((e, this) ∷ log) answer = (this ≡ answer) ⊎ IsAnswered log answer

  -- each page before this one has no free number, and this one has
  pub record IsFirstFree (pages : List (WorldPageState T)) (k : ℕ) : Type 0 where
    pub linked : k < length pages
    pub full : (j : ℕ) → j < k → word_of pages j ≡ 0
    pub free : 0 < word_of pages k

  -- there are pages, and none has a free number
  pub record AllFull (pages : List (WorldPageState T)) : Type 0 where
    pub some : 0 < length pages
    pub full : (j : ℕ) → j < length pages → word_of pages j ≡ 0

  -- the agent moves its value out by its own step of this count at the latest, and has it after
  -- just so many
  pub record MovesOutBy (count : ℕ) (log : Log T) (new : WorldState T) (a : ℕ) : Type 0 where
    pub answered : count ≤ own_steps log a → IsAnswered log (seen.MovedOut a)
    pub held : own_steps log a ≡ count → IsSome (held_by (slice_get new.agents a))

  -- the events with which an agent passes so many full pages, of which the last stands first
  abbrev pub passing : ℕ → ℕ → List (Event T)
  passing a zero = []
  passing a (suc count) = event.ReadNext a ∷ event.ReadMask a ∷ passing a count

  -- those with which it takes an item after these
  abbrev pub taking : ℕ → List (Event T) → List (Event T)
  taking a before = event.MoveOut a ∷ event.ClearBit a ∷ event.ReadMask a ∷ before

  -- those with which it links a page of these values after these
  abbrev pub linking : ℕ → List T → List (Event T) → List (Event T)
  linking a values before = event.ExchangeNext a ∷ event.MakePage a (Ok values) ∷ before

  -- the events of a log
  abbrev pub events_of : Log T → List (Event T)
  events_of log = map (λ entry. entry.0) log

-- an agent that reads page 0 first and then runs solo, without a hint, has an item after two
-- steps for each full page and three more, or after two more where it links a
-- page, and is refused by the second step at the last page of a limit
pub record RunsSolo {T : Type 0} (old : WorldState T) (log : Log T) (new : WorldState T) (a : ℕ) : Type 0 where
  pub takes : (k : ℕ) → IsFirstFree old.pages k → MovesOutBy (2 * k + 3) log new a
  pub links :
      AllFull old.pages → old.limit ≢ Some (length old.pages) → EachEvent BringsPage log
      → MovesOutBy (2 * length old.pages + 5) log new a
  pub refused :
      AllFull old.pages → old.limit ≡ Some (length old.pages)
      → 2 * length old.pages ≤ own_steps log a → IsAnswered log (seen.Refused a Limit)

-- the same where it may ask one page by a hint, which takes one step more at most
pub record RunsSoloByHint {T : Type 0} (old : WorldState T) (log : Log T) (a : ℕ) : Type 0 where
  pub takes :
      (k : ℕ) → IsFirstFree old.pages k → 2 * k + 4 ≤ own_steps log a → IsAnswered log (seen.MovedOut a)
  pub links :
      AllFull old.pages → old.limit ≢ Some (length old.pages) → EachEvent BringsPage log
      → 2 * length old.pages + 6 ≤ own_steps log a → IsAnswered log (seen.MovedOut a)
  pub refused :
      AllFull old.pages → old.limit ≡ Some (length old.pages)
      → 2 * length old.pages + 1 ≤ own_steps log a → IsAnswered log (seen.Refused a Limit)

-- so it is without a hint of an agent whose events come one after another as its points allow them
pub record StepsInOrder {T : Type 0} (old : WorldState T) (log : Log T) (new : WorldState T) (a : ℕ) : Type 0 where
  pub takes :
      (k : ℕ) → IsFirstFree old.pages k
      → events_of log ≡ taking a (passing a k) → IsSome (held_by (slice_get new.agents a))
  pub links :
      AllFull old.pages → old.limit ≢ Some (length old.pages) → (values : List T)
      → events_of log ≡ taking a (linking a values (passing a (length old.pages)))
      → IsSome (held_by (slice_get new.agents a))
  pub refused :
      AllFull old.pages → old.limit ≡ Some (length old.pages)
      → events_of log ≡ passing a (length old.pages) → IsAnswered log (seen.Refused a Limit)
