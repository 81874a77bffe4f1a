-- Which numbers lie on which words of a pool.
use Rattle.std.proofs.Common.{◌≡◌, ◌⊎◌, ℕ, ◌+◌, ◌/◌, ◌<◌, ◌≤◌, Bool, true, false, nat_lt, ◌==◌, sym, ◌∙◌, arith, inl, inr}
use Rattle.std.proofs.Common.{lt-ltb, le-ltb, eq-eqb, ne_eqb}
use Rattle.std.proofs.lemmas.Bool.{cases_lt, and_from, and_left, and_right, not_from_true, not_from_false}
use native.Mathlib.Decide.{ℕ_discrete}
use mathlib.Core.Logic.{dite}
use Rattle.fixed_pools.specs.FixedCount.{is_beside}

-- which numbers lie on the words of a segment, but for one word
pub inside : (from to skipped id : ℕ) → from ≤ id / 32 → id / 32 < to → (id / 32 ≡ skipped → ⊥)
    → is_beside from to skipped id ≡ true
inside from to skipped id above below differ =
    and_from _ _ (not_from_false _ (le-ltb (id / 32) from above))
    (and_from _ _ (lt-ltb (id / 32) to below) (not_from_false _ (ne_eqb (id / 32) skipped differ)))

pub before : (from to skipped id : ℕ) → id / 32 < from → is_beside from to skipped id ≡ false
before from to skipped id low = and_left _ _ (not_from_true _ (lt-ltb (id / 32) from low))

pub behind : (from to skipped id : ℕ) → to ≤ id / 32 → is_beside from to skipped id ≡ false
behind from to skipped id high = and_right _ _ (and_left _ _ (le-ltb (id / 32) to high))

left_out : (from to skipped id : ℕ) → id / 32 ≡ skipped → is_beside from to skipped id ≡ false
left_out from to skipped id same = and_right _ _ (and_right _ _ (not_from_true _ (eq-eqb (id / 32) skipped same)))

-- a number that passes the one test passes just one of the two others
abbrev pub Splits : (whole one other : ℕ → Bool) → ℕ → Type 0
Splits whole one other id =
    ((whole id ≡ true) × (one id ≡ true) × (other id ≡ false))
    ⊎ (((whole id ≡ true) × (one id ≡ false) × (other id ≡ true))
    ⊎ ((whole id ≡ false) × (one id ≡ false) × (other id ≡ false)))

-- the words of a segment, and the one behind it
pub one_behind : (from to skipped : ℕ) → from ≤ to → (to ≡ skipped → ⊥) → (id : ℕ)
    → Splits (is_beside from (to + 1) skipped) (is_beside from to skipped) (λ id. id / 32 == to) id
one_behind from to skipped ordered differ id = dite (ℕ_discrete (id / 32) skipped)
    (λ same. inr (inr (
      left_out from (to + 1) skipped id same,
      left_out from to skipped id same,
      ne_eqb (id / 32) to (λ here. differ (sym here ∙ same)),
    )))
    (λ other. elim (cases_lt (id / 32) from) [
      | inl low ↦ inr (inr (
        before from (to + 1) skipped id low,
        before from to skipped id low,
        ne_eqb (id / 32) to (λ here. absurd (omega arith)),
      ))
      | inr above ↦ elim (cases_lt (id / 32) to) [
        | inl low ↦ inl (
          inside from (to + 1) skipped id above (omega arith) other,
          inside from to skipped id above low other,
          ne_eqb (id / 32) to (λ here. absurd (omega arith)),
        )
        | inr high ↦ elim (cases_lt to (id / 32)) [
          | inl past ↦ inr (inr (
            behind from (to + 1) skipped id (omega arith),
            behind from to skipped id high,
            ne_eqb (id / 32) to (λ here. absurd (omega arith)),
          ))
          | inr up_to ↦ inr (inl (
            inside from (to + 1) skipped id above (omega arith) other,
            behind from to skipped id high,
            eq-eqb (id / 32) to (omega arith),
          ))
        ]
      ]
    ])

-- the words from one on, and those before it
pub both_segments : (next words skipped : ℕ) → next ≤ words → (id : ℕ)
    → Splits (is_beside 0 words skipped) (is_beside next words skipped) (is_beside 0 next skipped) id
both_segments next words skipped ordered id = dite (ℕ_discrete (id / 32) skipped)
    (λ same. inr (inr (
      left_out 0 words skipped id same,
      left_out next words skipped id same,
      left_out 0 next skipped id same,
    )))
    (λ other. elim (cases_lt (id / 32) next) [
      | inl low ↦ inr (inl (
        inside 0 words skipped id (omega arith) (omega arith) other,
        before next words skipped id low,
        inside 0 next skipped id (omega arith) low other,
      ))
      | inr high ↦ elim (cases_lt (id / 32) words) [
        | inl within ↦ inl (
          inside 0 words skipped id (omega arith) within other,
          inside next words skipped id high within other,
          behind 0 next skipped id high,
        )
        | inr past ↦ inr (inr (
          behind 0 words skipped id past,
          behind next words skipped id past,
          behind 0 next skipped id high,
        ))
      ]
    ])

-- all words, and the first one that a call has read
pub with_first : (words start : ℕ) → start < words → (id : ℕ)
    → Splits (λ id. nat_lt (id / 32) words) (is_beside 0 words start) (λ id. id / 32 == start) id
with_first words start in_pool id = dite (ℕ_discrete (id / 32) start)
    (λ same. inr (inl (
      lt-ltb (id / 32) words (omega arith),
      left_out 0 words start id same,
      eq-eqb (id / 32) start same,
    )))
    (λ other. elim (cases_lt (id / 32) words) [
      | inl within ↦ inl (
        lt-ltb (id / 32) words within,
        inside 0 words start id (omega arith) within other,
        ne_eqb (id / 32) start other,
      )
      | inr past ↦ inr (inr (
        le-ltb (id / 32) words past,
        behind 0 words start id past,
        ne_eqb (id / 32) start other,
      ))
    ])

past_by_one : (word skipped : ℕ) → skipped ≤ word → (word ≡ skipped → ⊥) → skipped + 1 ≤ word
past_by_one word skipped high other = elim (cases_lt skipped word) [
  | inl more ↦ omega arith
  | inr no_more ↦ absurd (other (omega arith))
]

-- a word that is skipped makes no difference
pub same_beside : (from skipped id : ℕ) → is_beside from skipped skipped id ≡ is_beside from (skipped + 1) skipped id
same_beside from skipped id = dite (ℕ_discrete (id / 32) skipped)
    (λ same. left_out from skipped skipped id same ∙ sym (left_out from (skipped + 1) skipped id same))
    (λ other. elim (cases_lt (id / 32) from) [
      | inl low ↦ before from skipped skipped id low ∙ sym (before from (skipped + 1) skipped id low)
      | inr above ↦ elim (cases_lt (id / 32) skipped) [
        | inl low ↦ inside from skipped skipped id above low other
            ∙ sym (inside from (skipped + 1) skipped id above (omega arith) other)
        | inr high ↦ behind from skipped skipped id high
            ∙ sym (behind from (skipped + 1) skipped id (past_by_one (id / 32) skipped high other))
      ]
    ])

pub skipped_before : (skipped page : ℕ) → skipped < page + 1 → (skipped ≡ page → ⊥) → skipped < page
skipped_before skipped page within other = elim (cases_lt skipped page) [
  | inl less ↦ less
  | inr no_less ↦ absurd (other (omega arith))
]
