-- In each reachable world a step answers NotEnabled exactly where the event isn't enabled.
use Rattle.std.proofs.Common.{◌≡◌, inl, inr, ℕ, true, Option, Some, None, ◌∷◌, slice_get, Ok}
use Rattle.std.proofs.Common.{ap, ◌∙◌}
use Rattle.std.specs.Bool.{⊤}
use Rattle.std.specs.Option.{option_and_then}
use Rattle.pool_world.specs.declared.interleave.event.Event.{Event}
use Rattle.pool_world.specs.declared.interleave.event.Event.TheVariants as event
use Rattle.pool_world.specs.declared.interleave.event.Seen.{Seen}
use Rattle.pool_world.specs.declared.interleave.event.Seen.TheVariants as seen
use Rattle.pool_world.specs.declared.interleave.point.Point.{Point}
use Rattle.pool_world.specs.declared.interleave.point.Point.TheVariants.{Making, Holding}
use Rattle.pool_world.specs.World.State.{WorldState}
use Rattle.pool_world.specs.World.Machine.{Steps, MayGrow, MovesHome, point_of}
use Rattle.pool_world.specs.World.OwnSteps.{is_idle}
use Rattle.pool_world.specs.World.Enabled.{IsEnabled, IsExact}
use Rattle.pool_world.specs.World.Headline.{IsReachable}
use Rattle.pool_world.specs.World.Inside.Invariant.{AgentKnows}
use Rattle.pool_world.proofs.World.Invariant.{Agreement}
use Rattle.pool_world.proofs.World.Moves.{Happens, NotEnabled, NoMemory, Begins, Goes, move-enabled, move-named}
use Rattle.pool_world.proofs.World.Moves.{move-busy, known, happens}
use Rattle.pool_world.proofs.World.Headline.{ran-agrees}

module _ {T : Type 0} (Leaves : T → T → Type 0) (old : WorldState T) where
  -- what may have to grow is enabled
  grows-enabled : (e : Event T) (point : Option (Point T)) → MayGrow e point → IsEnabled old e point
  grows-enabled event.Begin point may = tt
  grows-enabled (event.MakePage a (Ok values)) (Some (Making k)) may = tt
  grows-enabled _ _ may = absurd may

  -- the answer is NotEnabled exactly where the event isn't enabled
  happens-exact : (e : Event T) (answer : Seen) (new : WorldState T) → Happens Leaves old e (point_of old e) answer new
      → IsExact old e answer new
  happens-exact e answer new (NotEnabled none is same) = record {
    enabled = (λ not has. none has, λ not. is);
    unchanged = λ not. same;
  }
  happens-exact e answer new (NoMemory may is same) = record {
    enabled = (λ not has. cc, λ not. absurd (not (grows-enabled e (point_of old e) may)));
    unchanged = λ not. cc;
  }
  happens-exact e answer new (Begins is row) =
      let said = row.0 in
      record {
        enabled = (λ not has. cc, λ not. absurd (not (rw is tt)));
        unchanged = λ not. cc;
      }
  happens-exact e answer new (Goes a from to pages at moves same) =
      let busy = move-busy moves in
      let idle : answer ≡ seen.NotEnabled → ⊥ = λ not. absurd (let is : is_idle answer ≡ true = ap is_idle not in cc) in
      let there : point_of old e ≡ Some from =
      ap (λ agent. option_and_then (λ b. slice_get old.agents b) agent) (move-named moves)
      ∙ at in
      record {
        enabled = (
          λ not has. idle not,
          λ not. absurd (not (rw there (move-enabled moves))),
        );
        unchanged = λ not. absurd (idle not);
      }

module _ {T : Type 0} where
  any-row : (Leaves : T → T → Type 0) (old : WorldState T) (a : ℕ) (lookup : Option (Point T)) (answer : Seen)
      (new : WorldState T)
      → MovesHome Leaves old a lookup answer new → MovesHome (λ before kept. ⊤) old a lookup answer new
  any-row Leaves old a (Some (Holding k id value)) answer new (kept, leaves, row) = (kept, tt, row)
  any-row Leaves old a None answer new row = row
  any-row Leaves old a _ answer new row = row

  -- a step of one reset is a step of any
  pub any-step : (Leaves : T → T → Type 0) (old : WorldState T) (e : Event T) (answer : Seen) (new : WorldState T)
      → Steps Leaves old e answer new → Steps (λ before kept. ⊤) old e answer new
  any-step Leaves old e answer new (inr lacks) = inr lacks
  any-step Leaves old (event.MoveHome a) answer new (inl row) =
      inl (any-row Leaves old a (slice_get old.agents a) answer new row)
  any-step Leaves old event.Begin answer new (inl row) = inl row
  any-step Leaves old (event.ReadMask a) answer new (inl row) = inl row
  any-step Leaves old (event.ReadHinted a hint) answer new (inl row) = inl row
  any-step Leaves old (event.ClearBit a) answer new (inl row) = inl row
  any-step Leaves old (event.ReadNext a) answer new (inl row) = inl row
  any-step Leaves old (event.MakePage a prepared) answer new (inl row) = inl row
  any-step Leaves old (event.ExchangeNext a) answer new (inl row) = inl row
  any-step Leaves old (event.MoveOut a) answer new (inl row) = inl row
  any-step Leaves old (event.Write a value) answer new (inl row) = inl row
  any-step Leaves old (event.OrMask a) answer new (inl row) = inl row

  -- what the invariant knows of a world that can be reached
  pub reached-agrees : (world : WorldState T) (reached : IsReachable world)
      → Agreement (λ before kept. ⊤) reached.is_new.first reached.log world
  reached-agrees world reached =
      let start = reached.is_new in
      ran-agrees (λ before kept. ⊤) start.first start.full reached.start.limit start.allowed reached.log world
      (rw start.same at reached.ran)

  -- what is known of an agent in a world that can be reached
  pub known-reached : (new : WorldState T) (reached : IsReachable new) (a : ℕ) (point : Point T)
      → slice_get new.agents a ≡ Some point
      → AgentKnows (λ before kept. ⊤) reached.is_new.first reached.log (reached-agrees new reached).acts new a point
  known-reached new reached a point at =
      let agreed = reached-agrees new reached in
      known agreed.agrees a point at

  -- what a step does in a world that can be reached
  pub reached-happens : (Leaves : T → T → Type 0) (old : WorldState T) (e : Event T) (answer : Seen)
      (new : WorldState T) → IsReachable old → Steps Leaves old e answer new
      → Happens (λ before kept. ⊤) old e (point_of old e) answer new
  reached-happens Leaves old e answer new reached step =
      let agreed = reached-agrees old reached in
      happens agreed.agrees answer new e
      (any-step Leaves old e answer new step)

  pub reached-exact : (Leaves : T → T → Type 0) (old : WorldState T) (e : Event T) (answer : Seen)
      (new : WorldState T) → IsReachable old
      → Steps Leaves old e answer new → IsExact old e answer new
  reached-exact Leaves old e answer new reached step =
      happens-exact (λ before kept. ⊤) old e answer new (reached-happens Leaves old e answer new reached step)

  -- so is what a step leaves of a world that can be reached
  pub reached-step : (Leaves : T → T → Type 0) (old : WorldState T) (e : Event T) (answer : Seen) (new : WorldState T)
      → IsReachable old
      → Steps Leaves old e answer new → IsReachable new
  reached-step Leaves old e answer new reached step = record {
    start = reached.start;
    is_new = reached.is_new;
    log = (e, answer) ∷ reached.log;
    ran = (old, reached.ran, any-step Leaves old e answer new step, reached-exact Leaves old e answer new reached step);
  }
