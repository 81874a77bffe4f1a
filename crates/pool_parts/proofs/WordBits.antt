-- The bits of a word after one step.
use Rattle.std.proofs.Common.{◌≡◌, ℕ, ◌-◌, ◌*◌, ◌/◌, ◌%◌, ◌^◌, ◌<◌, suc, zero, min, List, length, set, get_or}
use Rattle.std.proofs.Common.{get_or-set_same, length-set, ◌≢◌, ◌+◌, ◌≤◌, bit_and, bit_or, refl, sym, ◌∙◌, ap, arith}
use Rattle.std.proofs.Common.{inl, inr, replicate}
use Rattle.std.specs.Int.{w64, bit_at, bit_not}
use Rattle.std.specs.Int.Bits.{or_add_and}
use native.Mathlib.Decide.{ℕ_discrete}
use mathlib.Core.Logic.{dite}
use Rattle.std.proofs.lemmas.List.{get_or-set_other, get_or-replicate, get_or_past, length-replicate}
use Rattle.std.proofs.lemmas.Bool.{cases_lt}
use Rattle.std.proofs.lemmas.Nat.Bits.{bit_at_lowest, bit_at-suc, bit_at_and}
use Rattle.std.proofs.lemmas.Nat.Bits.{bit_at_above, bit_at-lt, bit_at_ones, shr_and_one}
use Rattle.std.proofs.lemmas.Nat.Bits.{bit_at_ones_above, bit_at_or, bit_at-zero, same_from_bits}
use Rattle.std.proofs.lemmas.Nat.Bits.{bit_at_cat_low, bit_at_cat_high, bit_at_clear_same, bit_at_clear_other}
use Rattle.std.proofs.lemmas.Nat.{or_lt}
use lib.Pow.{pow_mono, ones_lt}
use Rattle.pool_parts.specs.PageRule.{item_bit, IsAllFree}
use Rattle.pool_parts.specs.Word.{SetsBit, ClearsBit}

-- one less turns the lowest set bit off, the bits below it on, and leaves those above it
bit_at-less_one : (k word : ℕ) → bit_at word k ≡ 1 → ((i : ℕ) → i < k → bit_at word i ≡ 0) → (i : ℕ)
    → (i ≡ k → bit_at (word - 1) i ≡ 0) × (k < i → bit_at (word - 1) i ≡ bit_at word i)
bit_at-less_one zero word set lowest zero =
    let odd = bit_at_lowest word in let low = bit_at_lowest (word - 1) in
    (λ _. omega arith, λ above. absurd (omega arith))
bit_at-less_one zero word set lowest (suc i) =
    let odd = bit_at_lowest word in
    let half : (word - 1) / 2 ≡ word / 2 = omega arith in
    (λ e. absurd (omega arith), λ _. bit_at-suc (word - 1) i ∙ ap (λ n. bit_at n i) half ∙ sym (bit_at-suc word i))
bit_at-less_one (suc k) word set lowest zero = (λ e. absurd (omega arith), λ above. absurd (omega arith))
bit_at-less_one (suc k) word set lowest (suc i) =
    let even : word % 2 ≡ 0 = sym (bit_at_lowest word) ∙ lowest 0 (omega arith) in
    let higher : bit_at (word / 2) k ≡ 1 = sym (bit_at-suc word k) ∙ set in
    let below : (j : ℕ) → j < k
    → bit_at (word / 2) j ≡ 0 = λ j lt. sym (bit_at-suc word j) ∙ lowest (suc j) (omega arith) in
    let half : (word - 1) / 2 ≡ word / 2 - 1 = omega arith in
    let less : bit_at (word - 1) (suc i) ≡ bit_at (word / 2 - 1) i =
    bit_at-suc (word - 1) i ∙ ap (λ n. bit_at n i) half in
    let rest = bit_at-less_one k (word / 2) higher below i in
    (λ e. less ∙ rest.0 (omega arith), λ above. less ∙ rest.1 (omega arith) ∙ sym (bit_at-suc word i))

-- a word without its lowest set bit
pub clears_least : (word k : ℕ) → bit_at word k ≡ 1 → ((i : ℕ) → i < k → bit_at word i ≡ 0)
    → ClearsBit word k (bit_and word (word - 1))
clears_least word k set lowest =
    let less = λ (i : ℕ). bit_at-less_one k word set lowest i in
    record {
      clear = grind (arith, bit_at_and word (word - 1) k, (less k).0 refl, set);
      others = λ i other. grind (arith, bit_at_and word (word - 1) i, lowest i, (less i).1);
    }

-- the word whose 32 bits are all set
abbrev pub all_bits : ℕ
all_bits = 4294967295

-- the lower half of a word
pub low_half_is : (word i : ℕ) → i < 32 → bit_at (bit_and word all_bits) i ≡ bit_at word i
low_half_is word i within =
    let ones = bit_at_ones 32 i within in
    let low = bit_at-lt word i in
    bit_at_and word all_bits i ∙ omega arith

pub low_half_rest : (word i : ℕ) → i < 32 → bit_at (word % 2 ^ 32) i ≡ bit_at word i
low_half_rest word i within =
    let whole : word / 2 ^ 32 * 2 ^ 32 + word % 2 ^ 32 ≡ word = omega arith in
    sym (bit_at_cat_low (word / 2 ^ 32) 32 (word % 2 ^ 32) i within) ∙ ap (λ w. bit_at w i) whole

-- a bit of the count
bit_at_count : (word i : ℕ) → bit_at (word / 2 ^ 32) i ≡ bit_at word (i + 32)
bit_at_count word i =
    let whole : word / 2 ^ 32 * 2 ^ 32 + word % 2 ^ 32 ≡ word = omega arith in
    let place : i + 32 - 32 ≡ i = omega arith in
    ap (bit_at (word / 2 ^ 32)) (sym place)
    ∙ sym (bit_at_cat_high (word / 2 ^ 32) 32 (word % 2 ^ 32) (i + 32) (omega arith) (omega arith))
    ∙ ap (λ w. bit_at w (i + 32)) whole

-- a word of which one bit of the lower half has changed has the same count
pub same_count : (old id new : ℕ) → id < 32 → ((i : ℕ) → i ≢ id → bit_at new i ≡ bit_at old i)
    → (new / 2 ^ 32) ≡ (old / 2 ^ 32)
same_count old id new within others = same_from_bits (new / 2 ^ 32) (old / 2 ^ 32) (λ i.
    bit_at_count new i ∙ others (i + 32) (λ same. absurd (omega arith)) ∙ sym (bit_at_count old i))

-- an and with a word that lacks one bit alone clears that bit
pub and_clears : (word operand id : ℕ) → word < 2 ^ 64 → ClearsBit (2 ^ 64 - 1) id operand
    → ClearsBit word id (bit_and word operand)
and_clears word operand id fits lacks = record {
  clear = grind (arith, bit_at_and word operand id, lacks.clear);
  others = λ i other. grind (
    arith,
    bit_at_and word operand i,
    lacks.others i other,
    bit_at-lt word i,
    bit_at_ones 64 i,
    bit_at_above word 64 i fits,
  );
}

-- an or with a word that has one bit alone sets that bit
pub or_sets : (word operand id : ℕ) → SetsBit 0 id operand → SetsBit word id (bit_or word operand)
or_sets word operand id has = record {
  set = grind (arith, bit_at_or word operand id, has.set, bit_at-lt word id);
  others = λ i other. grind (arith, bit_at_or word operand i, has.others i other, bit_at-zero i);
}

-- to add a word that has one bit alone is an or with it, where that bit was clear
add_sets : (word operand id : ℕ) → SetsBit 0 id operand → bit_at word id ≡ 0 → word + operand ≡ bit_or word operand
add_sets word operand id has clear =
    let apart : bit_and word operand ≡ 0 = same_from_bits (bit_and word operand) 0 (λ i.
    let here : i ≡ id → bit_at word i ≡ 0 = λ same. ap (bit_at word) same ∙ clear in
    grind (arith, bit_at_and word operand i, bit_at-zero i, bit_at-lt operand i, has.others i)) in
    let sum = or_add_and word operand in
    omega arith

-- a word of which a bit of the lower half, which was clear, and this much of the count were added in one step
pub record Raises (word id raise new : ℕ) : Type 0 where
  pub set : bit_at new id ≡ 1
  pub others : (i : ℕ) → i < 32 → i ≢ id → bit_at new i ≡ bit_at word i
  pub count : (new / 2 ^ 32) ≡ ((word / 2 ^ 32) + raise) % 2 ^ 32

pub raises : (word bit id raise : ℕ) → id < 32 → bit < 2 ^ 32 → raise ≤ 1 → word < 2 ^ 64 → SetsBit 0 id bit
    → bit_at word id ≡ 0
    → Raises word id raise ((word + (raise * 2 ^ 32 + bit)) % 2 ^ 64)
raises word bit id raise within small once fits has clear =
    let low : ℕ = word % 2 ^ 32 in
    let new : ℕ = (word + (raise * 2 ^ 32 + bit)) % 2 ^ 64 in
    let low_fits : low < 2 ^ 32 = omega arith in
    let sum : low + bit ≡ bit_or low bit = add_sets low bit id has (low_half_rest word id within ∙ clear) in
    let both_fit = or_lt 32 low bit low_fits small in
    let sets = or_sets low bit id has in
    let new_low : new % 2 ^ 32 ≡ bit_or low bit = omega arith in
    let bits : (i : ℕ) → i < 32 → bit_at new i ≡ bit_at (bit_or low bit) i =
    λ i below. sym (low_half_rest new i below) ∙ ap (λ w. bit_at w i) new_low in
    record {
      set = bits id within ∙ sets.set;
      others = λ i below other. bits i below ∙ sets.others i other ∙ low_half_rest word i below;
      count = omega arith;
    }

-- an item's bit is the bit of its word
pub item_bit_of : (words : List ℕ) (place bit : ℕ) → bit < 32
    → item_bit words (32 * place + bit) ≡ bit_at (get_or words place 0) bit
item_bit_of words place bit within =
    let word : (32 * place + bit) / 32 ≡ place = omega arith in
    let rest : (32 * place + bit) % 32 ≡ bit = omega arith in
    λ i. bit_at (get_or words (word i) 0) (rest i)

-- the bit of one item alone has changed, and is this now
pub record Turns (old : List ℕ) (id value : ℕ) (new : List ℕ) : Type 0 where
  pub here : item_bit new id ≡ value
  pub others : (i : ℕ) → i ≢ id → item_bit new i ≡ item_bit old i
  pub same_count : length new ≡ length old

-- words of which one bit of one word has changed
pub turns : (words : List ℕ) (place bit value new : ℕ) → bit < 32 → place < length words → bit_at new bit ≡ value
    → ((b : ℕ) → b < 32 → b ≢ bit → bit_at new b ≡ bit_at (get_or words place 0) b)
    → Turns words (32 * place + bit) value (set words place new)
turns words place bit value new within inside here others = record {
  here = item_bit_of (set words place new) place bit within ∙ ap (λ w.
      bit_at w bit) (get_or-set_same words place new 0 inside) ∙ here;
  others = λ i differ. dite (ℕ_discrete (i / 32) place)
      (λ same.
      let apart : i % 32 ≢ bit = λ e. differ (omega arith) in
      ap (λ w. bit_at w (i % 32))
      (ap (λ p. get_or (set words place new) p 0) same ∙ get_or-set_same words place new 0 inside)
      ∙ others (i % 32) (omega arith) apart ∙ ap (λ p. bit_at (get_or words p 0) (i % 32)) (sym same))
      (λ other. ap (λ w. bit_at w (i % 32)) (get_or-set_other words place (i / 32) new 0 other));
  same_count = length-set words place new;
}

-- one word has changed, and has the same count
pub same_counts : (words : List ℕ) (place new : ℕ) → place < length words
    → (new / 2 ^ 32) ≡ ((get_or words place 0) / 2 ^ 32) → (p : ℕ)
    → ((get_or (set words place new) p 0) / 2 ^ 32) ≡ ((get_or words p 0) / 2 ^ 32)
same_counts words place new inside same p = dite (ℕ_discrete p place)
    (λ here. rw (here, get_or-set_same words place new 0 inside) same)
    (λ other. ap (λ (word : ℕ). word / 2 ^ 32) (get_or-set_other words place p new 0 other))

-- a word that lacks one bit alone tells which
pub lacks_one : (operand bit other : ℕ) → other < 32 → ClearsBit (2 ^ 64 - 1) bit operand
    → ClearsBit (2 ^ 64 - 1) other operand → bit ≡ other
lacks_one operand bit other within one two =
    grind (arith, one.others other, two.clear, bit_at_ones 64 other (omega arith))

-- words that are all set but the last, of which only the lowest bits are
module _ (full low : ℕ) (some : 0 < low) (within : low ≤ 32) where
  abbrev words : List ℕ
  words = replicate (full + 1) all_bits

  abbrev pub free_words : List ℕ
  free_words = set words full (2 ^ low - 1)

  -- the lowest bits of each word are set, as many as there are items from its first on
  word_is : (place : ℕ) → get_or free_words place 0 ≡ 2 ^ min 32 (32 * full + low - 32 * place) - 1
  word_is place =
      let long = length-replicate (full + 1) all_bits in
      let same = length-set words full (2 ^ low - 1) in
      let bits = λ (count : ℕ) (is : count ≡ min 32 (32 * full + low - 32 * place)). ap (λ n. 2 ^ n - 1) is in
      elim (cases_lt place full) [
        | inl before ↦
            get_or-set_other words full place (2 ^ low - 1) 0 (λ same. let here : place ≡ full = same in
            absurd (omega arith))
            ∙ get_or-replicate (full + 1) place all_bits 0 (omega arith) ∙ bits 32 (omega arith)
        | inr from ↦ elim (cases_lt full place) [
          | inl past ↦ get_or_past free_words place 0 (omega arith) ∙ bits 0 (omega arith)
          | inr last ↦
              let here : place ≡ full = omega arith in
              ap (λ p. get_or free_words p 0) here ∙ get_or-set_same words full (2 ^ low - 1) 0 (omega arith)
              ∙ bits low (omega arith)
        ]
      ]

  pub all_free : IsAllFree (32 * full + low) free_words
  all_free = record {
    one_for_32 = let long = length-replicate (full + 1) all_bits in
        let same = length-set words full (2 ^ low - 1) in omega arith;
    words_fit = λ place.
        let word = word_is place in
        let count : ℕ = min 32 (32 * full + low - 32 * place) in
        let below = ones_lt count in
        let most : 2 ^ count ≤ 2 ^ 32 = pow_mono {i = count} {j = 32} (omega arith) in omega arith;
    set = λ id inside. ap (λ w. bit_at w (id % 32)) (word_is (id / 32)) ∙ bit_at_ones _ (id % 32) (omega arith);
    clear = λ id past. ap (λ w. bit_at w (id % 32)) (word_is (id / 32)) ∙ bit_at_ones_above _ (id % 32) (omega arith);
  }

-- the operand of an `and` that clears one bit of a whole word
pub all_but : (id : ℕ) → id < 32 → ClearsBit (2 ^ 64 - 1) id (bit_and (2 ^ 64 - 1) (bit_not w64 (1 * 2 ^ id % 2 ^ 64)))
all_but id in_word = record {
  clear = bit_at_clear_same w64 (2 ^ 64 - 1) _ (omega arith);
  others = λ i other. grind (
    arith,
    bit_at_clear_other w64 (2 ^ 64 - 1) id (omega arith) i,
    bit_at_above (2 ^ 64 - 1) 64 i,
    bit_at_and (2 ^ 64 - 1) (bit_not w64 (1 * 2 ^ id % 2 ^ 64)) i,
  );
}

-- a bit that a look at it finds not clear
pub bit_set : (word id : ℕ) → (bit_and (word / 2 ^ id) 1 ≡ 0 → ⊥) → bit_at word id ≡ 1
bit_set word id found = grind (arith, shr_and_one word id, bit_at-lt word id, found)
