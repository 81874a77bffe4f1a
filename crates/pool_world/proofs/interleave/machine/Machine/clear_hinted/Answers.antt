use Rattle.std.proofs.Common.{◌≡◌, Some, slice_get, arith, ◌==◌, true, false, refl}
use Rattle.std.proofs.lemmas.Bool.Decides.{nat_tests}
use Rattle.std.proofs.lemmas.Grind.{common_steps}
use Rattle.std.proofs.lemmas.Option.{gets}
use Rattle.pool_world.specs.declared.interleave.point.Point.TheVariants.{ClearingHinted}
use Rattle.pool_world.proofs.World.NotEnabled.{clears_only_at_clearing}
use Rattle.pool_world.proofs.interleave.machine.Machine.clear_hinted.Goals as goal

pub returns-in_default-clause-step : goal.returns-in_default-clause-step
returns-in_default-clause-step g c =
    clears_only_at_clearing _ _ (slice_get c.args.self.now.state.agents c.args.agent)
    (λ hint mask here. grind (arith, common_steps, gets, here))

pub returns-then-mask-eq0-clause-step : goal.returns-then-mask-eq0-clause-step
returns-then-mask-eq0-clause-step g c =
    let inside : slice_get c.self.inside.agents.items c.args.agent ≡ Some
    (ClearingHinted c.in-Some-ClearingHinted.hint c.in-Some-ClearingHinted.mask) =
    grind (arith, common_steps, gets, c.in-Some-ClearingHinted.ensures.lookup) in
    let none : (c.in-Some-ClearingHinted.mask == 0) ≡ true = grind (arith, nat_tests) in
    rw (← c.self.view_is) (rw inside (rw none (refl, refl)))

pub returns-clause-step : goal.returns-clause-step
returns-clause-step g c =
    let inside : slice_get c.self.inside.agents.items c.args.agent ≡ Some
    (ClearingHinted c.in-Some-ClearingHinted.hint c.in-Some-ClearingHinted.mask) =
    grind (arith, common_steps, gets, c.in-Some-ClearingHinted.ensures.lookup) in
    let at : slice_get c.args.self.now.state.agents c.args.agent ≡ Some
    (ClearingHinted c.in-Some-ClearingHinted.hint c.in-Some-ClearingHinted.mask) = rw (← c.self.view_is) inside in
    let some : (c.in-Some-ClearingHinted.mask == 0) ≡ false = grind (arith, nat_tests) in
    let next = c.tries_hinted.ensures.value in
    let rest = c.split_lowest-rest.ensures.rest in
    let lowest = c.split_lowest-rest.ensures.lowest in
    let cleared = c.clear.ensures.step in
    rw at (rw some (rw (← lowest, ← rest, ← next) cleared))
