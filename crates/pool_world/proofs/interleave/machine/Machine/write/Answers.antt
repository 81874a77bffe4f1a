use Rattle.std.proofs.Common.{◌≡◌, Some, slice_get, arith, refl}
use Rattle.std.proofs.lemmas.Grind.{common_steps}
use Rattle.std.proofs.lemmas.Option.{gets}
use Rattle.pool_world.specs.declared.interleave.point.Point.TheVariants.{Holding}
use Rattle.pool_world.proofs.World.NotEnabled.{writes_only_at_holding}
use Rattle.pool_world.proofs.interleave.machine.Machine.write.Goals as goal

pub returns-in_default-clause-step : goal.returns-in_default-clause-step
returns-in_default-clause-step g c =
    writes_only_at_holding _ _ _ _ (λ k id old here. grind (arith, common_steps, gets, here))

pub returns-clause-step : goal.returns-clause-step
returns-clause-step g c =
    let at : slice_get c.self.inside.agents.items c.args.agent ≡ Some
    (Holding c.in-Some-Holding.page c.in-Some-Holding.id c.in-Some-Holding.field-0-2) =
    grind (arith, common_steps, gets, c.in-Some-Holding.ensures.lookup) in
    let gone = c.go.ensures.state in
    rw (← c.self.view_is) (rw at (refl, (cc)))
