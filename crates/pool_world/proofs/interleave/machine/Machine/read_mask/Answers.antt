use Rattle.std.proofs.Common.{◌≡◌, Some, slice_get, arith, refl}
use Rattle.std.proofs.lemmas.Grind.{common_steps}
use Rattle.std.proofs.lemmas.Option.{gets}
use Rattle.pool_world.specs.declared.interleave.point.Point.TheVariants.{Reading}
use Rattle.pool_world.proofs.World.NotEnabled.{reads_only_at_reading}
use Rattle.pool_world.proofs.interleave.machine.Machine.read_mask.Goals as goal

pub returns-in_default-clause-step : goal.returns-in_default-clause-step
returns-in_default-clause-step g c =
    reads_only_at_reading _ _ _ (λ k asked here. grind (arith, common_steps, gets, here))

pub returns-clause-step : goal.returns-clause-step
returns-clause-step g c =
    let at : slice_get c.self.inside.agents.items c.args.agent ≡ Some
    (Reading c.in-Some-Reading.page c.in-Some-Reading.asked) =
    grind (arith, common_steps, gets, c.in-Some-Reading.ensures.lookup) in
    let gone = rw (← c.self.view_is) at c.go.ensures.state in
    rw (← c.self.view_is) (rw at (rw (← c.word_of-word.ensures, ← c.tries.ensures.value) (refl, gone)))
