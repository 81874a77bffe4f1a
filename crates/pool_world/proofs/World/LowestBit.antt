-- The lowest set bit of a mask.
use Rattle.std.proofs.Common.{◌≡◌, ℕ, ◌<◌, ◌^◌, arith}
use Rattle.std.specs.Int.{w32, trailing_zeros}
use Rattle.std.proofs.lemmas.Bool.{cases_lt}
use Rattle.std.proofs.Common.{inl, inr}
use Rattle.std.proofs.lemmas.Nat.Bits.{bit_at-trailing_zeros}
use Rattle.pool_parts.specs.Word.{IsLeastBit}

-- there is one lowest bit
pub lowest_is : (mask id : ℕ) → mask < 2 ^ 32 → 0 < mask → IsLeastBit mask id → id ≡ trailing_zeros w32 mask
lowest_is mask id fits some least =
    let lowest_bit = bit_at-trailing_zeros w32 mask some fits in
    elim (cases_lt id (trailing_zeros w32 mask)) [
      | inl below ↦ let clear = lowest_bit.2 id below in let set = least.set in absurd (omega arith)
      | inr above ↦ elim (cases_lt (trailing_zeros w32 mask) id) [
        | inl past ↦ let clear = least.lowest (trailing_zeros w32 mask) past in
            let set = lowest_bit.1 in absurd (omega arith)
        | inr same ↦ omega arith
      ]
    ]
