-- How far an agent is that looks: each of its steps counts, and its page.
use Rattle.std.proofs.Common.{◌≡◌, inl, inr, ℕ, ◌+◌, ◌*◌, ◌^◌, ◌<◌, ◌≤◌, nat_lt, false, Option, Some, nat_eq, bit_and}
use Rattle.std.proofs.Common.{◌-◌}
use Rattle.std.proofs.Common.{None, List, refl, ap, sym, ◌∙◌, arith}
use Rattle.std.specs.Int.{w32, bit_at, trailing_zeros}
use Rattle.std.proofs.lemmas.Bool.{eq-eqb, ne_eqb, eqb-false, lt-ltb, ltb-true, cases_eq, cases_lt, cases_Bool}
use Rattle.std.proofs.lemmas.Nat.Bits.{bit_at-trailing_zeros}
use Rattle.std.specs.Option.{option_eq}
use Rattle.pool_parts.proofs.WordBits.{clears_least}
use Rattle.pool_world.specs.declared.interleave.point.Point.{Point}
use Rattle.pool_world.specs.declared.interleave.point.Point.TheVariants.{Reading, AtLink}
use Rattle.pool_world.specs.declared.interleave.point.Point.TheVariants.{Making, Linking}
use Rattle.pool_world.specs.World.Inside.Progress.{taken_early, link_position, progress, position, Rises}
use Rattle.pool_world.specs.World.Inside.Progress.{MovesOn}
use Rattle.pool_world.specs.World.Machine.{tries, tries_hinted, comes_to}

-- ---- the bits that are tried go up
pub lowest-grows : (mask : ℕ) → 0 < mask → mask < 2 ^ 32 → bit_and mask (mask - 1) < 2 ^ 32 → 0 < bit_and mask (mask - 1)
    → trailing_zeros w32 mask < trailing_zeros w32 (bit_and mask (mask - 1))
lowest-grows mask some fits rest_fits more =
    let lowest_bit = bit_at-trailing_zeros w32 mask some fits in
    let rest = bit_at-trailing_zeros w32 (bit_and mask (mask - 1)) more rest_fits in
    let cleared = clears_least mask (trailing_zeros w32 mask) lowest_bit.1 lowest_bit.2 in
    elim (cases_lt (trailing_zeros w32 mask) (trailing_zeros w32 (bit_and mask (mask - 1)))) [
      | inl below ↦ below
      | inr above ↦ elim (cases_eq (trailing_zeros w32 (bit_and mask (mask - 1))) (trailing_zeros w32 mask)) [
        | inl same ↦
            let gone = cleared.clear in
            let set : bit_at (bit_and mask (mask - 1)) (trailing_zeros w32 mask) ≡ 1 =
            ap (bit_at (bit_and mask (mask - 1))) (sym same) ∙ rest.1 in
            absurd (omega arith)
        | inr other ↦
            let was = cleared.others (trailing_zeros w32 (bit_and mask (mask - 1))) other in
            let zero = lowest_bit.2 (trailing_zeros w32 (bit_and mask (mask - 1))) (omega arith) in
            let set = rest.1 in
            absurd (omega arith)
      ]
    ]

pub early-most : (asked : Option ℕ) (k : ℕ) → taken_early asked k ≤ 33
early-most None k = omega arith
early-most (Some hint) k =
    elim (cases_Bool (nat_lt k hint)) [ inl is ↦ rw is (omega arith) | inr not ↦ rw not (omega arith) ]

-- on the page before it they are all taken, on itself none any more
pub early-before : (hint k : ℕ) → k < hint → taken_early (Some hint) k ≡ 33
early-before hint k less = rw (lt-ltb k hint less) refl

pub early-past : (hint k : ℕ) → hint ≤ k → taken_early (Some hint) k ≡ 0
early-past hint k past = elim (cases_Bool (nat_lt k hint)) [
  | inl is ↦ let less = ltb-true k hint is in absurd (omega arith)
  | inr not ↦ rw not refl
]

-- on to the next page, which the hint didn't name, they stay
pub early-next : (asked : Option ℕ) (k : ℕ) → option_eq nat_eq asked (Some (k + 1)) ≡ false
    → taken_early asked (k + 1) ≡ taken_early asked k
early-next None k not = refl
early-next (Some hint) k not =
    let other = eqb-false hint (k + 1) not in
    elim (cases_lt k hint) [
      | inl less ↦ let further : k + 1 < hint = omega arith in early-before hint (k + 1) further
          ∙ sym (early-before hint k less)
      | inr past ↦ early-past hint (k + 1) (omega arith) ∙ sym (early-past hint k past)
    ]

pub link-between : (k : ℕ) (asked : Option ℕ) → (69 * k + 33 ≤ link_position k asked)
    × (link_position k asked ≤ 69 * k + 66)
link-between k None = (omega arith, omega arith)
link-between k (Some hint) = (omega arith, omega arith)

module _ {T : Type 0} where
  rises-to : (measure : Point T → Option ℕ) {from point : Point T} {sooner later : ℕ} → measure from ≡ Some sooner
      → measure point ≡ Some later → sooner + 1 ≤ later → Rises measure from point
  rises-to measure {sooner = sooner} {later = later} is to less other lookup =
      let equal : later ≡ other = cc in
      (sooner, is, omega arith)

  rises-past : (measure : Point T → Option ℕ) (from point : Point T) → measure point ≡ None → Rises measure from point
  rises-past measure from point none later lookup = absurd (let both : None ≡ Some later = sym none ∙ lookup in cc)

  pub advances-past : (from point : Point T) → progress point ≡ None → position point ≡ None → MovesOn from point
  advances-past from point none nowhere = record {
    steps = rises-past progress from point none;
    pages = rises-past position from point nowhere;
  }

  -- one step further by its steps and by its page
  advances-to : {from point : Point T} {sooner later here there : ℕ} → progress from ≡ Some sooner
      → progress point ≡ Some later → position from ≡ Some here → position point ≡ Some there
      → sooner + 1 ≤ later → here + 1 ≤ there → MovesOn from point
  advances-to is to at at_to less further = record {
    steps = rises-to progress is to less;
    pages = rises-to position at at_to further;
  }

  -- on a page of the chain, with these bits to try
  pub advances-tries : (from : Point T) (k mask : ℕ) (asked : Option ℕ) (sooner on_page : ℕ)
      → progress from ≡ Some (sooner + taken_early asked k)
      → position from ≡ Some on_page → sooner + 1 ≤ 36 * k + 33 → on_page + 1 ≤ 69 * k + 33
      → (0 < mask → (sooner + 1 ≤ 36 * k + 1 + trailing_zeros w32 mask)
      × (on_page + 1 ≤ 69 * k + 1 + trailing_zeros w32 mask))
      → MovesOn from (tries k mask asked)
  advances-tries from k mask asked sooner on_page is here link page bits =
      let (least, most) = link-between k asked in
      elim (cases_eq mask 0) [
        | inl none ↦ rw (eq-eqb mask 0 none) (advances-to is refl here refl (omega arith) (omega arith))
        | inr some ↦
            let (up, up_page) = bits (omega arith) in
            rw (ne_eqb mask 0 some) (advances-to is refl here refl (omega arith) (omega arith))
      ]

  -- on a page that a hint named
  pub advances-hinted : (from : Point T) (hint mask sooner : ℕ) → progress from ≡ Some sooner
      → position from ≡ Some sooner → 0 < hint
      → sooner + 1 ≤ 66 → (0 < mask → sooner + 1 ≤ 34 + trailing_zeros w32 mask) → MovesOn from (tries_hinted hint mask)
  advances-hinted from hint mask sooner is here further link bits =
      let early = early-before hint 0 further in
      elim (cases_eq mask 0) [
        | inl none ↦ rw (eq-eqb mask 0 none) (advances-to is refl here refl (omega arith) (omega arith))
        | inr some ↦
            let up = bits (omega arith) in
            rw (ne_eqb mask 0 some) (advances-to is refl here refl (omega arith) (omega arith))
      ]

  -- over the link to the next page, or past it where a hint led there in vain
  pub advances-next : (k : ℕ) (asked : Option ℕ) → MovesOn {T = T} (AtLink k asked) (comes_to (k + 1) asked)
  advances-next k asked =
      let (least, most) = link-between k asked in
      elim (cases_Bool (option_eq nat_eq asked (Some (k + 1)))) [
        | inl is ↦
            let (from_there, to_there) = link-between (k + 1) asked in
            let little = early-most asked k in
            rw is (advances-to refl refl refl refl (omega arith) (omega arith))
        | inr not ↦
            let stays = early-next asked k not in
            rw not (advances-to refl refl refl refl (omega arith) (omega arith))
      ]

  -- at the end of the chain, behind each page that a hint may have named
  pub advances-end : (k : ℕ) (asked : Option ℕ) → taken_early asked k ≡ 0
      → MovesOn {T = T} (AtLink k asked) (Making k)
  advances-end k asked none =
      let (least, most) = link-between k asked in
      advances-to refl refl refl refl (omega arith) (omega arith)

  pub advances-made : (k : ℕ) (values : List T) → MovesOn (Making k) (Linking k values)
  advances-made k values = advances-to refl refl refl refl (omega arith) (omega arith)

  pub advances-linked : (k : ℕ) (values : List T) → MovesOn (Linking k values) (Reading (k + 1) None)
  advances-linked k values = advances-to refl refl refl refl (omega arith) (omega arith)
