use Rattle.std.proofs.Common.{◌≡◌, Some, slice_get, arith, refl}
use Rattle.std.proofs.lemmas.Grind.{common_steps}
use Rattle.std.proofs.lemmas.Option.{gets}
use Rattle.pool_world.specs.declared.interleave.point.Point.TheVariants.{Holding}
use Rattle.pool_world.proofs.World.NotEnabled.{moves_home_only_at_holding}
use Rattle.pool_world.proofs.interleave.machine.Machine.move_home.Goals as goal

pub returns-in_default-clause-step : goal.returns-in_default-clause-step
returns-in_default-clause-step g c =
    moves_home_only_at_holding _ _ _ _ (λ k id value here. grind (arith, common_steps, gets, here))

pub returns-clause-step : goal.returns-clause-step
returns-clause-step g c =
    let at : slice_get c.self.inside.agents.items c.args.agent ≡ Some
    (Holding c.in-Some-Holding.page c.in-Some-Holding.id c.in-Holding.value) =
    grind (arith, common_steps, gets, c.in-Some-Holding.ensures.lookup, c.index_mut.ensures.value, c.replace.ensures.value) in
    let pages = c.put_value.ensures.pages in
    let home = c.replace.ensures.after in
    rw (← c.self.view_is) (rw at (c.reset_of-kept.result, c.reset_of-kept.ensures, (refl, (cc))))
