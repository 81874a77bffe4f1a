-- That an agent keeps the values made for a page, or ends if they can't be made, exactly as the
-- transition relation says. The table then has room for the page.
use Rattle.std.proofs.Common.{◌≡◌, ◌≢◌, ℕ, ◌+◌, ◌<◌, Some, Result, Ok, Err, slice_get, arith, rules, inl, inr, nat_lt}
use Rattle.std.proofs.Common.{length, true, false, refl}
use Rattle.std.specs.Result.{OnOk, is_ok}
use Rattle.std.specs.Vec.{vec_len, vec_capacity}
use Rattle.std.proofs.lemmas.Bool.{false≢true}
use Rattle.std.proofs.lemmas.Bool.Decides.{nat_tests}
use Rattle.std.proofs.lemmas.Grind.{common_steps}
use Rattle.std.proofs.lemmas.Option.{gets}
use Rattle.pool_parts.specs.declared.pull_error.PullError.{PullError}
use Rattle.pool_parts.specs.declared.pull_error.PullError.TheVariants.{Memory, Init, Limit, Closed}
use Rattle.pool_world.specs.World.State.{WorldState}
use Rattle.pool_world.specs.World.Machine.{at_point, make_page, IsOutcome}
use Rattle.pool_world.specs.declared.interleave.event.Seen.TheVariants.{Refused}
use Rattle.pool_world.specs.declared.interleave.point.Point.TheVariants.{Making, Ended}
use Rattle.pool_world.proofs.World.LinkCapacity.{room-more, room-made}
use Rattle.pool_world.proofs.World.NotEnabled.{makes_only_at_making}
use Rattle.pool_world.proofs.interleave.machine.Machine.make_page.Goals as goal

-- a page that isn't made ends its agent, where the cause is neither the limit nor that a pool is closed
refuses_at_making : {T : Type 0} (world : WorldState T) (a k : ℕ) (cause : PullError) → cause ≢ Limit → cause ≢ Closed
    → IsOutcome (make_page world a (Err cause) (Some (Making k))) (Refused a cause) (at_point world a Ended)
refuses_at_making world a k Memory unlimited opened = (refl, refl)
refuses_at_making world a k Init unlimited opened = (refl, refl)
refuses_at_making world a k Limit unlimited opened = absurd (unlimited refl)
refuses_at_making world a k Closed unlimited opened = absurd (opened refl)

-- what holds where a call succeeds holds here, since it did
succeeded : {A E P : Type 0} (r : Result A E) → is_ok r ≡ true → OnOk r P → P
succeeded (Ok x) ok holds = holds
succeeded (Err e) ok holds = absurd (false≢true ok)

pub returns-in_default-clause-step : goal.returns-in_default-clause-step
returns-in_default-clause-step g c =
    inl (makes_only_at_making _ _ _ _ (λ k here. grind (arith, common_steps, gets, here)))

pub returns-then-page-len-clause-step : goal.returns-then-page-len-clause-step
returns-then-page-len-clause-step g c =
    let at : slice_get c.self.inside.agents.items c.args.agent ≡ Some (Making c.in-Some-Making.page) =
    grind (arith, common_steps, gets, c.in-Some-Making.ensures.lookup) in
    let past : nat_lt c.in-Some-Making.page (length c.self.inside.pages.items) ≡ false = grind (arith, nat_tests) in
    rw (← c.self.view_is) (inl (rw at (rw c.in-Ok.is (rw past (refl, refl)))))

pub returns-then-is_err-clause-step : goal.returns-then-is_err-clause-step
returns-then-is_err-clause-step g c =
    let at : slice_get c.self.inside.agents.items c.args.agent ≡ Some (Making c.in-Some-Making.page) =
    grind (arith, common_steps, gets, c.in-Some-Making.ensures.lookup) in
    rw (← c.self.view_is) (inr (rw at (rw (c.in-Ok.is, c.reserve.ensures.items) (tt, refl, refl))))

pub returns-else-is_err-clause-step : goal.returns-else-is_err-clause-step
returns-else-is_err-clause-step g c =
    let at : slice_get c.self.inside.agents.items c.args.agent ≡ Some (Making c.in-Some-Making.page) =
    grind (arith, common_steps, gets, c.in-Some-Making.ensures.lookup) in
    let linked : nat_lt c.in-Some-Making.page (length c.self.inside.pages.items) ≡ true = grind (arith, nat_tests) in
    rw (← c.self.view_is) (inl (rw at (rw c.in-Ok.is (rw (linked, c.reserve.ensures.items) (refl, refl)))))

pub returns-in-Err-clause-step : goal.returns-in-Err-clause-step
returns-in-Err-clause-step g c =
    let at : slice_get c.self.inside.agents.items c.args.agent ≡ Some (Making c.in-Some-Making.page) =
    grind (arith, common_steps, gets, c.in-Some-Making.ensures.lookup) in
    let unlimited : c.in-Err.cause ≢ Limit = λ is. grind (arith, common_steps, is) in
    let opened : c.in-Err.cause ≢ Closed = λ is. grind (arith, common_steps, is) in
    let gone = rw (← c.self.view_is) at c.go.ensures.state in
    rw (← c.self.view_is) (inl (rw at (rw (c.in-Err.is, gone) (refuses_at_making _ _ _ _ unlimited opened))))

pub invariant_of-self : goal.invariant_of-self
invariant_of-self g c =
    room-more (vec_capacity c.self.inside.pages) _ _ (omega (arith, c.reserve.ensures.capacity)) c.self.invariant

pub invariant_of-self-in-Ok : goal.invariant_of-self-in-Ok
invariant_of-self-in-Ok g c =
    let room = succeeded _ c.if-is_err.ensures.negation c.reserve.ensures.ok in
    let enough : c.in-Some-Making.page + 1 < vec_capacity c.reserve.new.self =
    omega (arith, room, c.len.ensures, c.reserve.ensures.len) in
    room-made (vec_capacity c.self.inside.pages) _ _ c.args.agent c.in-Some-Making.page c.in-Ok.values
    (omega (arith, c.reserve.ensures.capacity)) enough c.self.invariant

pub returns-else-is_err-clause-room_is_made : goal.returns-else-is_err-clause-room_is_made
returns-else-is_err-clause-room_is_made g c =
    let room = succeeded _ c.if-is_err.ensures.negation c.reserve.ensures.ok in
    let count : vec_len c.reserve.new.self ≡ length c.reserve.new.self.items = search rules in
    omega (arith, room, count)
