-- The bits of a page's word as it changes.
use Rattle.std.proofs.Common.{◌≡◌, ◌≢◌, ℕ, ◌-◌, ◌^◌, ◌<◌, ◌==◌, true, false, bit_and, bit_or, refl, ap, sym, ◌∙◌, arith}
use Rattle.std.specs.Int.{w32, bit_at, bit_not, trailing_zeros}
use Rattle.std.proofs.lemmas.Bool.{eq-eqb}
use Rattle.std.proofs.lemmas.Nat.{one_shl, or_lt, and_le_l}
use Rattle.std.proofs.Math.Pow.{pow-lt}
use Rattle.std.proofs.lemmas.Nat.Bits.{bit_at-zero, bit_at_ones, bit_at-trailing_zeros, bit_at_set_same}
use Rattle.std.proofs.lemmas.Nat.Bits.{bit_at_set_other, bit_at_clear_same, bit_at_clear_other}
use Rattle.pool_parts.proofs.WordBits.{clears_least}
use Rattle.pool_world.specs.World.Machine.{has_bit, with_bit, without_bit}

-- a bit is set or clear
clear-bit : (word id : ℕ) → bit_at word id ≡ 0 → has_bit word id ≡ false
clear-bit word id clear = rw clear refl

-- the word 0 has no bit set, a new page's word has each
pub has_bit-none : (id : ℕ) → has_bit 0 id ≡ false
has_bit-none id = clear-bit 0 id (bit_at-zero id)

pub has_bit-all : (id : ℕ) → id < 32 → has_bit 4294967295 id ≡ true
has_bit-all id within = eq-eqb (bit_at 4294967295 id) 1 (bit_at_ones 32 id within)

-- one bit is set
pub has_bit-set_same : (word id : ℕ) → id < 32 → has_bit (with_bit word id) id ≡ true
has_bit-set_same word id within =
    eq-eqb (bit_at (with_bit word id) id) 1
    (ap (λ one. bit_at (bit_or word one) id) (sym (one_shl id 32 within)) ∙ bit_at_set_same w32 word id within)

pub has_bit-set_other : (word id i : ℕ) → id < 32 → i ≢ id → has_bit (with_bit word id) i ≡ has_bit word i
has_bit-set_other word id i within other =
    ap (λ bit. bit == 1)
    (ap (λ one. bit_at (bit_or word one) i) (sym (one_shl id 32 within))
    ∙ bit_at_set_other w32 word id within i other)

pub with_bit-lt : (word id : ℕ) → id < 32 → word < 2 ^ 32 → with_bit word id < 2 ^ 32
with_bit-lt word id within fits = or_lt 32 word (2 ^ id) fits (pow-lt within)

-- one bit is cleared
pub has_bit-clear_same : (word id : ℕ) → id < 32 → has_bit (without_bit word id) id ≡ false
has_bit-clear_same word id within =
    clear-bit (without_bit word id) id
    (ap (λ one. bit_at (bit_and word (bit_not w32 one)) id) (sym (one_shl id 32 within))
    ∙ bit_at_clear_same w32 word id within)

pub has_bit-clear_other : (word id i : ℕ) → id < 32 → i < 32 → i ≢ id → has_bit (without_bit word id) i ≡ has_bit word i
has_bit-clear_other word id i within inside other =
    ap (λ bit. bit == 1) (ap (λ one. bit_at (bit_and word (bit_not w32 one)) i) (sym (one_shl id 32 within))
    ∙ bit_at_clear_other w32 word id within i inside other)

pub without_bit-lt : (word id : ℕ) → word < 2 ^ 32 → without_bit word id < 2 ^ 32
without_bit-lt word id fits = let less = and_le_l word (bit_not w32 (2 ^ id)) in omega arith

-- the lowest set bit of a mask
pub lowest-lt : (mask : ℕ) → 0 < mask → mask < 2 ^ 32 → trailing_zeros w32 mask < 32
lowest-lt mask some fits = (bit_at-trailing_zeros w32 mask some fits).0

pub has_bit-lowest : (mask : ℕ) → 0 < mask → mask < 2 ^ 32 → has_bit mask (trailing_zeros w32 mask) ≡ true
has_bit-lowest mask some fits =
    eq-eqb (bit_at mask (trailing_zeros w32 mask)) 1 (bit_at-trailing_zeros w32 mask some fits).1

pub has_bit-without_lowest : (mask i : ℕ) → 0 < mask → mask < 2 ^ 32 → i ≢ trailing_zeros w32 mask
    → has_bit (bit_and mask (mask - 1)) i ≡ has_bit mask i
has_bit-without_lowest mask i some fits other =
    let lowest_bit = bit_at-trailing_zeros w32 mask some fits in
    ap (λ bit. bit == 1) ((clears_least mask (trailing_zeros w32 mask) lowest_bit.1 lowest_bit.2).others i other)

pub without_lowest-lt : (mask : ℕ) → mask < 2 ^ 32 → bit_and mask (mask - 1) < 2 ^ 32
without_lowest-lt mask fits = let less = and_le_l mask (mask - 1) in omega arith
