-- What the bounds on own steps say of a call, and of all that was done since the world was new.
use Rattle.std.proofs.Common.{◌≡◌, ℕ, ◌-◌, ◌*◌, ◌<◌, Some, [], ◌∷◌, ◌++◌, slice_get, refl, ap}
use Rattle.pool_world.specs.World.State.{WorldState}
use Rattle.pool_world.specs.World.Trace.{Log}
use Rattle.pool_world.specs.World.Headline.{IsNew, Executes, Past, IsReachable}
use Rattle.pool_world.specs.World.OwnSteps.{own_steps, IsLooking}
use Rattle.pool_world.specs.World.StepBounds.{IsBounded, BoundsOwnSteps}

-- a world in which no agent has begun can be reached
pub new-reachable : {T : Type 0} (world : WorldState T) → IsNew world → IsReachable world
new-reachable world is_new = record { start = world; is_new = is_new; log = []; ran = refl }

module _ {T : Type 0} (Leaves : T → T → Type 0) where
  -- and nothing was done before it
  pub new-past : (world : WorldState T) → IsNew world → Past Leaves world
  new-past world is_new = record { start = world; is_new = is_new; log = []; ran = refl }

  -- steps that follow others
  pub executes-append : (old between : WorldState T) (earlier : Log T) → Executes Leaves old earlier between
      → (later : Log T) (new : WorldState T)
      → Executes Leaves between later new → Executes Leaves old (later ++ earlier) new
  executes-append old between earlier before [] new same = rw same before
  executes-append old between earlier before ((e, answer) ∷ later) new (last, ran, step, exact) =
      (last, executes-append old between earlier before later last ran, step, exact)

  -- the steps that a call did
  pub bounded-call : (old : WorldState T) → Past Leaves old → (log : Log T) (new : WorldState T)
      → Executes Leaves old log new → BoundsOwnSteps Leaves new
      → IsBounded (record { from = old; log = log; to = new })
  bounded-call old past log new ran bounds =
      bounds past.start (new-reachable past.start past.is_new) (record { from = old; log = log; to = new })
      (record { earlier = past.log; before = past.ran; steps = ran; later = []; after = refl })

  -- and all steps since the world was new
  pub bounded-since_new : (old : WorldState T) (past : Past Leaves old) (log : Log T) (new : WorldState T)
      → Executes Leaves old log new → BoundsOwnSteps Leaves new
      → IsBounded (record { from = past.start; log = log ++ past.log; to = new })
  bounded-since_new old past log new ran bounds =
      bounded-call past.start (new-past past.start past.is_new) (log ++ past.log) new
      (executes-append past.start old past.log past.ran log new ran) bounds

  -- so under a limit an agent that looks took fewer than 36 * limit - 2 since the world was new
  pub looks-since_new : (old : WorldState T) (past : Past Leaves old) (log : Log T) (new : WorldState T)
      → Executes Leaves old log new → BoundsOwnSteps Leaves new
      → (a limit : ℕ) → new.limit ≡ Some limit → IsLooking (slice_get new.agents a)
      → own_steps (log ++ past.log) a < 36 * limit - 2
  looks-since_new old past log new ran bounds a limit limited looks =
      (bounded-since_new old past log new ran bounds).bounded a limit
      (ap (λ world. slice_get world.agents a) past.is_new.same) limited looks
