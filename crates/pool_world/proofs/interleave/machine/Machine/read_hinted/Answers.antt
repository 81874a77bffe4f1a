use Rattle.std.proofs.Common.{◌≡◌, Some, None, slice_get, arith, refl}
use Rattle.std.proofs.lemmas.Grind.{common_steps}
use Rattle.std.proofs.lemmas.Option.{gets}
use Rattle.pool_world.specs.declared.interleave.point.Point.TheVariants.{AtLink}
use Rattle.pool_world.proofs.World.NotEnabled.{reads_hinted_only_at_link}
use Rattle.pool_world.proofs.interleave.machine.Machine.read_hinted.Goals as goal

pub returns-in_default-clause-step : goal.returns-in_default-clause-step
returns-in_default-clause-step g c =
    reads_hinted_only_at_link _ _ _ (slice_get c.args.self.now.state.agents c.args.agent)
    (λ k here. grind (arith, common_steps, gets, here))

pub returns-then-not-may_name-clause-step : goal.returns-then-not-may_name-clause-step
returns-then-not-may_name-clause-step g c =
    let at : slice_get c.self.inside.agents.items c.args.agent ≡ Some
    (AtLink c.in-Some-AtLink-default-None.page None) =
    grind (arith, common_steps, gets, c.in-Some-AtLink-default-None.ensures.lookup) in
    let not = rw (← c.self.view_is) at c.if-not-may_name.ensures in
    rw (← c.self.view_is) (rw at (rw (← not) (refl, refl)))

pub returns-clause-step : goal.returns-clause-step
returns-clause-step g c =
    let at : slice_get c.self.inside.agents.items c.args.agent ≡ Some
    (AtLink c.in-Some-AtLink-default-None.page None) =
    grind (arith, common_steps, gets, c.in-Some-AtLink-default-None.ensures.lookup) in
    let may = rw (← c.self.view_is) at c.if-not-may_name.ensures in
    let gone = rw (← c.self.view_is) at c.go.ensures.state in
    rw (← c.self.view_is) (rw at
    (rw (← may, ← c.word_of-word.ensures, ← c.tries_hinted.ensures.value) (refl, gone)))
