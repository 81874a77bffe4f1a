use Rattle.std.proofs.Common.{◌≡◌, Some, slice_get, arith, ◌==◌, true, false, refl}
use Rattle.std.proofs.lemmas.Bool.Decides.{nat_tests}
use Rattle.std.proofs.lemmas.Grind.{common_steps}
use Rattle.std.proofs.lemmas.Option.{gets}
use Rattle.pool_world.specs.declared.interleave.point.Point.TheVariants.{Clearing}
use Rattle.pool_world.proofs.World.NotEnabled.{clears_as_hinted}
use Rattle.pool_world.proofs.interleave.machine.Machine.clear_bit.Goals as goal

pub returns-in_default-clause-step : goal.returns-in_default-clause-step
returns-in_default-clause-step g c =
    clears_as_hinted _ _ (slice_get c.args.self.now.state.agents c.args.agent) _ _
    (λ k mask asked here. grind (arith, common_steps, gets, here)) c.clear_hinted.ensures.step

pub returns-then-mask-eq0-clause-step : goal.returns-then-mask-eq0-clause-step
returns-then-mask-eq0-clause-step g c =
    let inside : slice_get c.self.inside.agents.items c.args.agent ≡ Some
    (Clearing c.in-Some-Clearing.page c.in-Some-Clearing.mask c.in-Some-Clearing.asked) =
    grind (arith, common_steps, gets, c.in-Some-Clearing.ensures.lookup) in
    let none : (c.in-Some-Clearing.mask == 0) ≡ true = grind (arith, nat_tests) in
    rw (← c.self.view_is) (rw inside (rw none (refl, refl)))

pub returns-clause-step : goal.returns-clause-step
returns-clause-step g c =
    let inside : slice_get c.self.inside.agents.items c.args.agent ≡ Some
    (Clearing c.in-Some-Clearing.page c.in-Some-Clearing.mask c.in-Some-Clearing.asked) =
    grind (arith, common_steps, gets, c.in-Some-Clearing.ensures.lookup) in
    let at : slice_get c.args.self.now.state.agents c.args.agent ≡ Some
    (Clearing c.in-Some-Clearing.page c.in-Some-Clearing.mask c.in-Some-Clearing.asked) =
    rw (← c.self.view_is) inside in
    let some : (c.in-Some-Clearing.mask == 0) ≡ false = grind (arith, nat_tests) in
    let next = c.tries.ensures.value in
    let rest = c.split_lowest-rest.ensures.rest in
    let lowest = c.split_lowest-rest.ensures.lowest in
    let cleared = c.clear.ensures.step in
    rw at (rw some (rw (← lowest, ← rest, ← next) cleared))
