use Rattle.std.proofs.Common.{◌≡◌, Some, None, slice_get, arith, refl, sym}
use Rattle.std.proofs.lemmas.Grind.{common_steps}
use Rattle.std.proofs.lemmas.Option.{gets}
use Rattle.pool_world.specs.World.Machine.{page_value}
use Rattle.pool_world.specs.declared.interleave.point.Point.TheVariants.{Taken}
use Rattle.pool_world.proofs.World.NotEnabled.{moves_out_only_at_taken}
use Rattle.pool_world.proofs.interleave.machine.Machine.move_out.Goals as goal

pub returns-in_default-clause-step : goal.returns-in_default-clause-step
returns-in_default-clause-step g c =
    moves_out_only_at_taken _ _ _ (λ k id here. grind (arith, common_steps, gets, here))

pub returns-then-is_none-clause-step : goal.returns-then-is_none-clause-step
returns-then-is_none-clause-step g c =
    let at : slice_get c.self.inside.agents.items c.args.agent ≡ Some
    (Taken c.in-Some-Taken.page c.in-Some-Taken.id) =
    grind (arith, common_steps, gets, c.in-Some-Taken.ensures.lookup) in
    let none : page_value c.self.inside.pages.items c.in-Some-Taken.page c.in-Some-Taken.id ≡ None =
    grind (arith, common_steps, c.page_value.ensures, c.if-is_none.ensures) in
    rw (← c.self.view_is) (rw at (rw none (refl, refl)))

pub returns-in-Some-clause-step : goal.returns-in-Some-clause-step
returns-in-Some-clause-step g c =
    let at : slice_get c.self.inside.agents.items c.args.agent ≡ Some
    (Taken c.in-Some-Taken.page c.in-Some-Taken.id) =
    grind (arith, common_steps, gets, c.in-Some-Taken.ensures.lookup) in
    let some : page_value c.self.inside.pages.items c.in-Some-Taken.page c.in-Some-Taken.id ≡ Some c.in-Some.value =
    sym c.in-Some.ensures.value in
    let pages = c.take_value.ensures.pages in
    let gone = c.go.ensures.state in
    rw (← c.self.view_is) (rw at (rw some (refl, (cc))))

pub returns-in-None-clause-step : goal.returns-in-None-clause-step
returns-in-None-clause-step g c =
    let lies : ⊥ =
    grind (arith, common_steps, c.page_value.ensures, c.if-is_none.ensures, c.in-None.ensures.value) in
    absurd lies
