-- How many steps of its own an agent needs.
use Rattle.std.proofs.Common.{◌≡◌, ℕ, ◌+◌, ◌-◌, ◌*◌, ◌<◌, ◌≤◌, Option, Some, None, slice_get, length, List, IfSome}
use Rattle.std.proofs.Common.{inl, inr, arith, refl, ap, sym, ◌∙◌}
use Rattle.pool_world.specs.World.State.{WorldState}
use Rattle.pool_world.specs.World.Trace.{Log}
use Rattle.pool_world.specs.World.StepBounds.{BoundsOwnSteps}
use Rattle.pool_world.specs.World.Headline.{IsReachable}
use Rattle.pool_world.specs.World.OwnSteps.{own_steps, IsAtPage, IsAtHintedPage, IsLooking}
use Rattle.pool_world.specs.World.Inside.Invariant.{SawFull}
use Rattle.pool_world.specs.declared.interleave.point.Point.{Point}
use Rattle.pool_world.specs.declared.interleave.point.Point.TheVariants.{Reading, Clearing, AtLink}
use Rattle.pool_world.specs.declared.interleave.point.Point.TheVariants.{ClearingHinted, Making, Linking}
use Rattle.pool_world.specs.Pool.{AllowsPages}
use Rattle.pool_world.specs.Run.{Act}
use Rattle.std.proofs.lemmas.Bool.{cases_lt}
use Rattle.pool_world.proofs.World.Bits.{lowest-lt}
use Rattle.pool_world.proofs.World.Enabled.{reached-agrees, known-reached}
use Rattle.pool_world.proofs.World.Solo.{unhinted-is, ran-solo, ran-solo_by_hint}
use Rattle.pool_world.proofs.World.Reachable.{ran-reached, ran-advances}
use Rattle.pool_world.proofs.World.InOrder.{ran-in_order}
use Rattle.pool_world.proofs.World.OwnSteps.{measure_from, AdvancedTo}
use Rattle.pool_world.specs.World.Inside.Progress.{progress, position, taken_early}
use Rattle.pool_world.proofs.World.Progress.{early-most, early-past}

-- no more pages are allowed than the limit
allows-most : (limit : Option ℕ) {most pages : ℕ} → limit ≡ Some most → AllowsPages limit pages → pages ≤ most
allows-most None is allowed = absurd (cc)
allows-most (Some limit) {most = most} is allowed = let same : limit ≡ most = cc in omega arith

module _ {T : Type 0} where
  allowed-under : (new : WorldState T) → IsReachable new → {limit : ℕ} → new.limit ≡ Some limit
      → length new.pages ≤ limit
  allowed-under new reached is = allows-most new.limit is (reached-agrees new reached).agrees.allowed

  -- as many steps as lie between two points
  steps-between : (measure : Point T → Option ℕ) (n : ℕ) (start now : Option (Point T)) {sooner later : ℕ}
      → measure_from measure start ≡ Some sooner → AdvancedTo measure start n now
      → measure_from measure now ≡ Some later → sooner + n ≤ later
  steps-between measure n start None {sooner = sooner} at (none, same) now =
      let is : Some sooner ≡ Some 0 = sym at ∙ ap (measure_from measure) same in
      let first : sooner ≡ 0 = cc in
      omega arith
  steps-between measure n start (Some point) {sooner = sooner} {later = later} at advanced now =
      let (began, began_at, few) = advanced later now in
      let is : Some sooner ≡ Some began = sym at ∙ began_at in
      let same : sooner ≡ began = cc in
      omega arith

  -- the steps on one page
  page-steps-at : (start : Option (Point T)) (new : WorldState T) (log : Log T) (a k : ℕ) (asked : Option ℕ)
      → IsReachable new
      → start ≡ Some (Reading k asked) → (lookup : Option (Point T)) → slice_get new.agents a ≡ lookup
      → AdvancedTo position start (own_steps log a) lookup → IsAtPage k lookup → own_steps log a < 33
  page-steps-at start new log a k asked reached is (Some (Reading j later)) at advanced here =
      let few = steps-between position (own_steps log a) start (Some (Reading j later)) (ap (measure_from position) is)
      advanced refl in
      omega arith
  page-steps-at start new log a k asked reached is (Some (Clearing j mask later)) at advanced here =
      let bits = (known-reached new reached a (Clearing j mask later) at).1 in
      let within = lowest-lt mask bits.some bits.in_word in
      let few = steps-between position (own_steps log a) start (Some (Clearing j mask later))
      (ap (measure_from position) is) advanced refl in
      omega arith
  page-steps-at start new log a k asked reached is _ at advanced here = absurd here

  -- the steps on the page that a hint names
  hint-steps-at : (start : Option (Point T)) (new : WorldState T) (log : Log T) (a : ℕ) → IsReachable new
      → start ≡ Some (AtLink 0 None)
      → (lookup : Option (Point T)) → slice_get new.agents a ≡ lookup
      → AdvancedTo position start (own_steps log a) lookup
      → IsAtHintedPage lookup → own_steps log a < 33
  hint-steps-at start new log a reached is (Some (ClearingHinted hint mask)) at advanced here =
      let knows = known-reached new reached a (ClearingHinted hint mask) at in
      let within = lowest-lt mask knows.bits.some knows.bits.in_word in
      let few = steps-between position (own_steps log a) start (Some (ClearingHinted hint mask))
      (ap (measure_from position) is) advanced refl in
      omega arith
  hint-steps-at start new log a reached is _ at advanced here = absurd here

  -- those that were taken early, on a page that is linked, are within the limit
  early-within : (asked : Option ℕ) (first : List T) (acts : List (Act T)) (pages a k : ℕ)
      → IfSome asked (λ hint. SawFull first acts pages a hint)
      → k < pages → 36 * k + taken_early asked k + 36 ≤ 36 * pages
  early-within None first acts pages a k full linked = omega arith
  early-within (Some hint) first acts pages a k full linked =
      let there = full.linked in
      elim (cases_lt k hint) [
        | inl before ↦ let most = early-most (Some hint) k in omega arith
        | inr past ↦ let none = early-past hint k past in omega arith
      ]

  -- how far an agent that looks may be, by the limit
  looking-within : (new : WorldState T) (a limit : ℕ) → IsReachable new → new.limit ≡ Some limit
      → (lookup : Option (Point T)) → slice_get new.agents a ≡ lookup → IsLooking lookup → (far : ℕ)
      × (measure_from progress lookup ≡ Some far) × (far < 36 * limit - 2)
  looking-within new a limit reached is (Some (Reading k asked)) at looks =
      let knows = known-reached new reached a (Reading k asked) at in
      let within = early-within asked _ _ (length new.pages) a k knows.asked_full knows.linked in
      let allowed = allowed-under new reached is in
      (_, refl, omega arith)
  looking-within new a limit reached is (Some (Clearing k mask asked)) at looks =
      let (knows, bits) = known-reached new reached a (Clearing k mask asked) at in
      let least = lowest-lt mask bits.some bits.in_word in
      let within = early-within asked _ _ (length new.pages) a k knows.asked_full knows.linked in
      let allowed = allowed-under new reached is in
      (_, refl, omega arith)
  looking-within new a limit reached is (Some (AtLink k asked)) at looks =
      let knows = known-reached new reached a (AtLink k asked) at in
      let within = early-within asked _ _ (length new.pages) a k knows.asked_full knows.linked in
      let allowed = allowed-under new reached is in
      (_, refl, omega arith)
  looking-within new a limit reached is (Some (ClearingHinted hint mask)) at looks =
      let knows = known-reached new reached a (ClearingHinted hint mask) at in
      let least = lowest-lt mask knows.bits.some knows.bits.in_word in
      let further = knows.further in
      let linked = knows.linked in
      let allowed = allowed-under new reached is in
      (_, refl, omega arith)
  looking-within new a limit reached is (Some (Making k)) at looks =
      let most = allows-most new.limit is (known-reached new reached a (Making k) at).allowed in
      (_, refl, omega arith)
  looking-within new a limit reached is (Some (Linking k values)) at looks =
      let most = allows-most new.limit is (known-reached new reached a (Linking k values) at).0.allowed in
      (_, refl, omega arith)
  looking-within new a limit reached is _ at looks = absurd looks

  limit-steps-at : (start : Option (Point T)) (new : WorldState T) (log : Log T) (a limit : ℕ) → IsReachable new
      → new.limit ≡ Some limit
      → start ≡ None → (lookup : Option (Point T)) → slice_get new.agents a ≡ lookup
      → AdvancedTo progress start (own_steps log a) lookup → IsLooking lookup → own_steps log a < 36 * limit - 2
  limit-steps-at start new log a limit reached is none lookup at advanced looks =
      let (far, now, within) = looking-within new a limit reached is lookup at looks in
      let most = steps-between progress (own_steps log a) start lookup (ap (measure_from progress) none) advanced now in
      omega arith

-- own steps are bounded on each segment of what led to a world
pub bounds-own_steps : {T : Type 0} (Leaves : T → T → Type 0) (world : WorldState T) → BoundsOwnSteps Leaves world
bounds-own_steps Leaves world from reached segment lies =
    let there : IsReachable segment.from =
    ran-reached Leaves from reached lies.earlier segment.from lies.before in
    let end : IsReachable segment.to = ran-reached Leaves segment.from there segment.log segment.to lies.steps in
    record {
      per_page = λ a k asked at here.
          page-steps-at (slice_get segment.from.agents a) segment.to segment.log a k asked end at
          (slice_get segment.to.agents a) refl
          (ran-advances Leaves position (λ from point further. further.pages) segment.from there a segment.log
          segment.to lies.steps) here;
      per_hint = λ a at here.
          hint-steps-at (slice_get segment.from.agents a) segment.to segment.log a end at
          (slice_get segment.to.agents a) refl
          (ran-advances Leaves position (λ from point further. further.pages) segment.from there a segment.log
          segment.to lies.steps) here;
      bounded = λ a limit none limited looks.
          limit-steps-at (slice_get segment.from.agents a) segment.to segment.log a limit end limited none
          (slice_get segment.to.agents a) refl
          (ran-advances Leaves progress (λ from point further. further.steps) segment.from there a segment.log
          segment.to lies.steps) looks;
      alone = λ a at only unhinted.
          ran-solo Leaves segment.from there a at segment.log segment.to lies.steps only unhinted;
      in_order = λ a at only unhinted.
          ran-in_order Leaves segment.from there a at segment.log segment.to lies.steps
          (unhinted-is a segment.log only unhinted);
      alone_by_hint = λ a at only.
          ran-solo_by_hint Leaves segment.from there a at segment.log segment.to lies.steps only;
    }
