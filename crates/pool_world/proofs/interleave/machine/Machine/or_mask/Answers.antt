use Rattle.std.proofs.Common.{◌≡◌, Some, arith, slice_get, nat_lt, true, false, refl}
use Rattle.std.proofs.lemmas.Bool.Decides.{nat_tests}
use Rattle.std.proofs.lemmas.Grind.{common_steps}
use Rattle.std.proofs.lemmas.Option.{gets}
use Rattle.pool_world.specs.declared.interleave.point.Point.TheVariants.{Home}
use Rattle.pool_world.proofs.World.NotEnabled.{returns_only_at_home}
use Rattle.pool_world.proofs.interleave.machine.Machine.or_mask.Goals as goal

pub returns-in_default-clause-step : goal.returns-in_default-clause-step
returns-in_default-clause-step g c =
    returns_only_at_home _ _ (slice_get c.args.self.now.state.agents c.args.agent)
    (λ k id here. grind (arith, common_steps, gets, here))

pub returns-then-from-ge-PAGE_ITEMS-clause-step : goal.returns-then-from-ge-PAGE_ITEMS-clause-step
returns-then-from-ge-PAGE_ITEMS-clause-step g c =
    let at : slice_get c.self.inside.agents.items c.args.agent ≡ Some
    (Home c.in-Some-Home.page c.in-Some-Home.id) =
    grind (arith, common_steps, gets, c.in-Some-Home.ensures.lookup) in
    let past : nat_lt c.in-Some-Home.id 32 ≡ false = grind (arith, nat_tests) in
    rw (← c.self.view_is) (rw at (rw past (refl, refl)))

pub returns-clause-step : goal.returns-clause-step
returns-clause-step g c =
    let at : slice_get c.self.inside.agents.items c.args.agent ≡ Some
    (Home c.in-Some-Home.page c.in-Some-Home.id) =
    grind (arith, common_steps, gets, c.in-Some-Home.ensures.lookup) in
    let within : nat_lt c.in-Some-Home.id 32 ≡ true = grind (arith, nat_tests) in
    let word = c.word_of-word.ensures in
    let bits = c.with_bit.ensures in
    let pages = c.set_word.ensures.pages in
    let gone = c.go.ensures.state in
    let named = c.number.ensures in
    rw (← c.self.view_is) (rw at (rw within ((cc), (cc))))
