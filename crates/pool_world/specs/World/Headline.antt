-- The main theorem: under every interleaving of their steps, what agents do in a world is a run of
-- one pool. Begin here, with `IsRun`; `Past` and `RunsEvents` say of which events it holds. How
-- many steps of its own an agent needs is a second theorem, in `World.StepBounds`.
use Rattle.std.specs.Prelude.{◌≡◌, ℕ, Some, List, [], ◌∷◌, ◌++◌, map, reverse, length, ⊤}
use Rattle.std.specs.Prelude.{slice_get, Result, OnOk}
use Rattle.pool_world.specs.declared.interleave.event.Event.{Event}
use Rattle.pool_world.specs.declared.interleave.event.Seen.{Seen}
use Rattle.pool_world.specs.declared.interleave.point.Point.TheVariants.{Holding}
use Rattle.pool_world.specs.declared.run_error.RunError.{RunError}
use Rattle.pool_world.specs.Pool.{IsPool, IsSame, AllowsPages, number}
use Rattle.pool_world.specs.Run.{Act, ledger_of, opened, pool_of, Holds, Run, SawTakenBeforeEach, HasHolders}
use Rattle.pool_world.specs.Run.{AtEachPlace}
use Rattle.pool_world.specs.World.State.{WorldState}
use Rattle.pool_world.specs.World.Machine.{Steps, number_out, opening_world}
use Rattle.pool_world.specs.World.Enabled.{IsExact}
use Rattle.pool_world.specs.World.AbstractPool.{abstract_pool}
use Rattle.pool_world.specs.World.Trace.{Log, IsTraceOf}
use Rattle.pool_parts.specs.declared.page.word.TheConstants.{PAGE_ITEMS}
use Rattle.pool_parts.specs.Ledger.{IsLegal}

-- what the events did, from a world of these first values in which no agent had begun, is a run of
-- one pool
pub record IsRun {T : Type 0} (Leaves : T → T → Type 0) (first : List T) (log : Log T)
    (world : WorldState T) : Type 0 where
  -- the answers that show something of the pool, one after another, are acts
  pub acts : List (Act T)
  pub visible : IsTraceOf log acts
  -- they are a run from the opening pool, and the world stands for the pool to which it has led
  pub run : Run Leaves world.limit first acts
  pub ends : IsSame (pool_of first acts) (abstract_pool world)
  -- the ledger of the run is legal, from the values with which its pages came
  pub legal : IsLegal (opened first acts) (ledger_of acts)
  -- no more pages are linked than are allowed
  pub allowed : AllowsPages world.limit (length world.pages)
  -- at each place of the run the pool has the numbers of its pages, no more than are allowed
  pub whole : AtEachPlace (λ place. IsPool world.limit (pool_of first place)) acts
  -- at each place of the run each number that is out has one holder, and each other number none
  pub holders : AtEachPlace (HasHolders first) acts
  -- an agent with an item in the world holds its number with its value there
  pub held :
      (a k id : ℕ) (value : T) → slice_get world.agents a ≡ Some (Holding k id value)
      → Holds acts a (number k id) value
  -- so it is of its number from its pull to its return
  pub out : (a n : ℕ) → number_out (slice_get world.agents a) ≡ Some n → (value : T) × Holds acts a n value
  -- at each growth its agent had seen each number taken since it began, and at each
  -- refusal each number of as many pages as there were at some place since then
  pub saw_taken : SawTakenBeforeEach first acts

-- a world of one page of 32 values, in which no agent has begun
pub record IsNew {T : Type 0} (world : WorldState T) : Type 0 where
  pub first : List T
  pub full : length first ≡ PAGE_ITEMS
  pub allowed : AllowsPages world.limit 1
  pub same : world ≡ opening_world first world.limit

-- what a call of `run` is given: the world, the events, and the answers that were there
pub record RunStart (T : Type 0) : Type 0 where
  pub world : WorldState T
  pub events : List (Event T)
  pub seen : List Seen

-- what it leaves: the world, the answers, and its result
pub record RunEnd (T : Type 0) : Type 0 where
  pub world : WorldState T
  pub seen : List Seen
  pub result : Result (Unit {0}) RunError

module _ {T : Type 0} (Leaves : T → T → Type 0) where
  -- these events with these answers lead from one world to another, step by step
  abbrev pub Executes : WorldState T → Log T → WorldState T → Type 0
  Executes old [] new = new ≡ old
  Executes old ((e, answer) ∷ log) new =
      (between : WorldState T) × Executes old log between × Steps Leaves between e answer new
      × IsExact between e answer new

  -- what was done before: steps from a world in which no agent had begun
  pub record Past (world : WorldState T) : Type 0 where
    pub start : WorldState T
    pub is_new : IsNew start
    pub log : Log T
    pub ran : Executes start log world

  -- the events were done from the first on, all of them unless memory ran out
  pub record RunsEvents (before : RunStart T) (after : RunEnd T) : Type 0 where
    -- the events that were done, with their answers
    pub log : Log T
    -- whatever was done before, it and they together are a run since the world was new
    pub headline :
        (past : Past before.world) → IsRun Leaves past.is_new.first (log ++ past.log) after.world
    -- they are a prefix of the list, and after Ok the whole list
    pub rest : List (Event T)
    pub done : map (λ entry. entry.0) (reverse log) ++ rest ≡ before.events
    pub all : OnOk after.result (rest ≡ [])
    -- their answers follow the ones before
    pub answers : before.seen ++ map (λ entry. entry.1) (reverse log) ≡ after.seen
    -- each is a step of the machine, and exactly an event that isn't enabled is answered so
    pub steps : Executes before.world log after.world

-- a world can be reached: some steps lead to it from a world in which no agent has begun, with a
-- reset that may leave any value, since the bounds on own steps hold for each
abbrev pub IsReachable : {T : Type 0} → WorldState T → Type 0
IsReachable world = Past (λ old kept. ⊤) world
