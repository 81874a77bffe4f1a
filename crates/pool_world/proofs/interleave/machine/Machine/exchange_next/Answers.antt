-- That the agent's page is linked if the page before it is the last one, and else dropped, exactly
-- as the transition relation says. The table has room for it.
use Rattle.std.proofs.Common.{◌≡◌, Some, None, slice_get, arith, rules, nat_lt, ◌==◌, ◌+◌, length, true, false, refl}
use Rattle.std.specs.Vec.{vec_len}
use Rattle.std.proofs.lemmas.Bool.{eqb-true}
use Rattle.std.proofs.lemmas.Bool.Decides.{nat_tests}
use Rattle.std.proofs.lemmas.Grind.{common_steps}
use Rattle.std.proofs.lemmas.Option.{gets}
use Rattle.pool_world.specs.declared.interleave.point.Point.TheVariants.{Reading, Linking}
use Rattle.pool_world.proofs.World.LinkCapacity.{room-moved, room-more, room-there}
use Rattle.pool_world.proofs.World.NotEnabled.{links_only_at_linking}
use Rattle.pool_world.proofs.interleave.machine.Machine.exchange_next.Goals as goal

pub returns-in_default-clause-step : goal.returns-in_default-clause-step
returns-in_default-clause-step g c =
    links_only_at_linking _ _ _ (λ k values here. grind (arith, common_steps, gets, here))

pub returns-then-page-len-clause-step : goal.returns-then-page-len-clause-step
returns-then-page-len-clause-step g c =
    let at : slice_get c.self.inside.agents.items c.args.agent ≡ Some
    (Linking c.in-Some-Linking.page c.in-Some-Linking.field-0-1) =
    grind (arith, common_steps, gets, c.in-Some-Linking.ensures.lookup) in
    let past : nat_lt c.in-Some-Linking.page (length c.self.inside.pages.items) ≡ false = grind (arith, nat_tests) in
    rw (← c.self.view_is) (rw at (rw past (refl, refl)))

pub returns-then-not-is_last-clause-step : goal.returns-then-not-is_last-clause-step
returns-then-not-is_last-clause-step g c =
    let at : slice_get c.self.inside.agents.items c.args.agent ≡ Some
    (Linking c.in-Some-Linking.page c.in-Some-Linking.field-0-1) =
    grind (arith, common_steps, gets, c.in-Some-Linking.ensures.lookup) in
    let linked : nat_lt c.in-Some-Linking.page (length c.self.inside.pages.items) ≡ true = grind (arith, nat_tests) in
    let more : (length c.self.inside.pages.items == c.in-Some-Linking.page + 1) ≡ false =
    grind (arith, nat_tests, c.is_last.ensures) in
    let gone = c.go.ensures.state in
    rw (← c.self.view_is) (rw at (rw (linked, more) (refl, (cc))))

pub returns-in-Some-clause-step : goal.returns-in-Some-clause-step
returns-in-Some-clause-step g c =
    let at : slice_get c.self.inside.agents.items c.args.agent ≡ Some
    (Linking c.in-Some-Linking.page c.in-Some-Linking.field-0-1) =
    grind (arith, common_steps, gets, c.in-Some-Linking.ensures.lookup) in
    let values : Some c.in-Some.values ≡ Some c.in-Some-Linking.field-0-1 = rw at at c.in-Some.ensures.values in
    let linked : nat_lt c.in-Some-Linking.page (length c.self.inside.pages.items) ≡ true = grind (arith, nat_tests) in
    let last : (length c.self.inside.pages.items == c.in-Some-Linking.page + 1) ≡ true = grind (arith, nat_tests) in
    let pages = c.link_last.ensures.pages in
    let agents = c.in-Some.ensures.agents in
    rw (← c.self.view_is) (rw at (rw (linked, last) (refl, (cc))))

pub returns-in-None : goal.returns-in-None
returns-in-None g c =
    let at : slice_get c.self.inside.agents.items c.args.agent ≡ Some
    (Linking c.in-Some-Linking.page c.in-Some-Linking.field-0-1) =
    grind (arith, common_steps, gets, c.in-Some-Linking.ensures.lookup) in
    let none : None ≡ Some c.in-Some-Linking.field-0-1 = rw at at c.in-None.ensures.values in
    cc

pub link_last-requires : goal.link_last-requires
link_last-requires g c =
    let at : slice_get c.self.inside.agents.items c.args.agent ≡ Some
    (Linking c.in-Some-Linking.page c.in-Some-Linking.field-0-1) =
    grind (arith, common_steps, gets, c.in-Some-Linking.ensures.lookup) in
    let last : (length c.self.inside.pages.items == c.in-Some-Linking.page + 1) ≡ true = grind (arith, nat_tests) in
    let room = room-there _ _ _ _ _ c.self.invariant at in
    let count : vec_len c.self.inside.pages ≡ length c.self.inside.pages.items = search rules in
    omega (arith, room, count, eqb-true _ _ last)

pub invariant_of-self : goal.invariant_of-self
invariant_of-self g c =
    let moved = room-moved _ _ c.args.agent (Reading (c.in-Some-Linking.page + 1) None) c.self.invariant tt in
    rw c.in-Some.ensures.agents (room-more _ _ _ c.link_last.ensures.room moved)

pub invariant_of-self-in-None : goal.invariant_of-self-in-None
invariant_of-self-in-None g c =
    rw c.in-None.ensures.agents
    (room-moved _ _ c.args.agent (Reading (c.in-Some-Linking.page + 1) None) c.self.invariant tt)
