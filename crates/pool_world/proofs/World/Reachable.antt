-- Steps one after another, from a world that can be reached.
use Rattle.std.proofs.Common.{ℕ, Option, [], ◌∷◌, slice_get}
use Rattle.pool_world.specs.declared.interleave.point.Point.{Point}
use Rattle.pool_world.specs.World.State.{WorldState}
use Rattle.pool_world.specs.World.Trace.{Log}
use Rattle.pool_world.specs.World.Headline.{Executes, Past, IsReachable}
use Rattle.pool_world.specs.World.Enabled.{IsExact}
use Rattle.pool_world.specs.World.Machine.{Steps}
use Rattle.pool_world.specs.Laws.WorldBounds.{new-reachable}
use Rattle.pool_world.specs.declared.interleave.event.Event.{Event}
use Rattle.pool_world.specs.declared.interleave.event.Seen.{Seen}
use Rattle.pool_world.specs.World.OwnSteps.{own_steps, is_step_of}
use Rattle.pool_world.proofs.World.Enabled.{reached-step, reached-exact, reached-agrees}
use Rattle.pool_world.proofs.World.Enabled.{reached-happens}
use Rattle.pool_world.specs.World.Inside.Progress.{MovesOn, Rises}
use Rattle.pool_world.proofs.World.OwnSteps.{AdvancedTo, effect-advances, none-advanced, step-does}

module _ {T : Type 0} (Leaves : T → T → Type 0) where
  -- what steps lead to can be reached
  pub ran-reached : (old : WorldState T) → IsReachable old → (log : Log T) (new : WorldState T)
      → Executes Leaves old log new → IsReachable new
  ran-reached old reached [] new same = rw same reached
  ran-reached old reached ((e, answer) ∷ log) new (between, ran, step, exact) =
      reached-step Leaves between e answer new (ran-reached old reached log between ran) step

  -- a step from such a world is exact, and is one more of what was done
  pub past-exact : (old : WorldState T) (e : Event T) (answer : Seen) (new : WorldState T)
      → Past Leaves old → Steps Leaves old e answer new → IsExact old e answer new
  past-exact old e answer new past step =
      reached-exact Leaves old e answer new
      (ran-reached past.start (new-reachable past.start past.is_new) past.log old past.ran) step

  pub past-step : (old : WorldState T) (e : Event T) (answer : Seen) (new : WorldState T)
      → Past Leaves old → Steps Leaves old e answer new → Past Leaves new
  past-step old e answer new past step = record {
    start = past.start;
    is_new = past.is_new;
    log = (e, answer) ∷ past.log;
    ran = (old, past.ran, step, past-exact old e answer new past step);
  }

  -- an agent goes on by its own steps
  pub ran-advances : (measure : Point T → Option ℕ)
      → ((from point : Point T) → MovesOn from point → Rises measure from point)
      → (old : WorldState T) → IsReachable old → (a : ℕ) (log : Log T) (new : WorldState T)
      → Executes Leaves old log new
      → AdvancedTo measure (slice_get old.agents a) (own_steps log a) (slice_get new.agents a)
  ran-advances measure counts old reached a [] new same = rw same (none-advanced measure (slice_get old.agents a))
  ran-advances measure counts old reached a ((e, answer) ∷ log) new (between, ran, step, exact) =
      let there = ran-reached old reached log between ran in
      let agreed = reached-agrees between there in
      effect-advances measure counts (slice_get old.agents a) (slice_get between.agents a) (slice_get new.agents a)
      (own_steps log a) (is_step_of e answer a)
      (step-does agreed.agrees e answer new
      (reached-happens Leaves between e answer new there step) a)
      (ran-advances measure counts old reached a log between ran)
