-- That a read of a link leads to the next page, to the making of one, or to a refusal at the limit,
-- exactly as the transition relation says.
use Rattle.std.proofs.Common.{◌≡◌, Some, slice_get, arith, nat_lt, ◌==◌, ◌+◌, length, true, false, refl, nat_eq}
use Rattle.std.proofs.lemmas.Bool.Decides.{nat_tests}
use Rattle.std.proofs.lemmas.Grind.{common_steps}
use Rattle.std.proofs.lemmas.Option.{gets}
use Rattle.std.specs.Option.{option_eq}
use Rattle.pool_world.specs.declared.interleave.point.Point.TheVariants.{AtLink}
use Rattle.pool_world.proofs.World.NotEnabled.{goes_on_only_at_link}
use Rattle.pool_world.proofs.interleave.machine.Machine.read_next.Goals as goal

pub returns-in_default-clause-step : goal.returns-in_default-clause-step
returns-in_default-clause-step g c =
    goes_on_only_at_link _ _ _ (λ k asked here. grind (arith, common_steps, gets, here))

pub returns-then-page-pages-clause-step : goal.returns-then-page-pages-clause-step
returns-then-page-pages-clause-step g c =
    let at : slice_get c.self.inside.agents.items c.args.agent
    ≡ Some (AtLink c.in-Some-AtLink.page c.in-Some-AtLink.asked) =
    grind (arith, common_steps, gets, c.in-Some-AtLink.ensures.lookup) in
    let past : nat_lt c.in-Some-AtLink.page (length c.self.inside.pages.items) ≡ false = grind (arith, nat_tests) in
    rw (← c.self.view_is) (rw at (rw past (refl, refl)))

pub returns-then-is_last_allowed-clause-step : goal.returns-then-is_last_allowed-clause-step
returns-then-is_last_allowed-clause-step g c =
    let at : slice_get c.self.inside.agents.items c.args.agent
    ≡ Some (AtLink c.in-Some-AtLink.page c.in-Some-AtLink.asked) =
    grind (arith, common_steps, gets, c.in-Some-AtLink.ensures.lookup) in
    let linked : nat_lt c.in-Some-AtLink.page (length c.self.inside.pages.items) ≡ true = grind (arith, nat_tests) in
    let last : option_eq nat_eq c.self.inside.limit (Some (c.in-Some-AtLink.page + 1)) ≡ true =
    grind (arith, nat_tests, c.is_last_allowed.ensures) in
    let gone = c.go.ensures.state in
    rw (← c.self.view_is) (rw at (rw (linked, last) (refl, (cc))))

pub returns-then-is_last-clause-step : goal.returns-then-is_last-clause-step
returns-then-is_last-clause-step g c =
    let at : slice_get c.self.inside.agents.items c.args.agent
    ≡ Some (AtLink c.in-Some-AtLink.page c.in-Some-AtLink.asked) =
    grind (arith, common_steps, gets, c.in-Some-AtLink.ensures.lookup) in
    let linked : nat_lt c.in-Some-AtLink.page (length c.self.inside.pages.items) ≡ true = grind (arith, nat_tests) in
    let below : option_eq nat_eq c.self.inside.limit (Some (c.in-Some-AtLink.page + 1)) ≡ false =
    grind (arith, nat_tests, c.is_last_allowed.ensures) in
    let last : (length c.self.inside.pages.items == c.in-Some-AtLink.page + 1) ≡ true =
    grind (arith, nat_tests, c.is_last.ensures) in
    let gone = c.go-then-is_last.ensures.state in
    rw (← c.self.view_is) (rw at (rw (linked, below, last) (refl, (cc))))

pub returns-clause-step : goal.returns-clause-step
returns-clause-step g c =
    let at : slice_get c.self.inside.agents.items c.args.agent
    ≡ Some (AtLink c.in-Some-AtLink.page c.in-Some-AtLink.asked) =
    grind (arith, common_steps, gets, c.in-Some-AtLink.ensures.lookup) in
    let linked : nat_lt c.in-Some-AtLink.page (length c.self.inside.pages.items) ≡ true = grind (arith, nat_tests) in
    let below : option_eq nat_eq c.self.inside.limit (Some (c.in-Some-AtLink.page + 1)) ≡ false =
    grind (arith, nat_tests, c.is_last_allowed.ensures) in
    let more : (length c.self.inside.pages.items == c.in-Some-AtLink.page + 1) ≡ false =
    grind (arith, nat_tests, c.is_last.ensures) in
    let next = c.comes_to.ensures.value in
    let gone = c.go-2.ensures.state in
    rw (← c.self.view_is) (rw at (rw (linked, below, more) (refl, (cc))))
