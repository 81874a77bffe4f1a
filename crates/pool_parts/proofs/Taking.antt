-- What a user has seen that tried the bits of a word.
use Rattle.std.proofs.Common.{◌≡◌, ◌≢◌, [], ℕ, ◌+◌, ◌-◌, ◌*◌, ◌<◌, ◌≤◌}
use Rattle.std.proofs.Common.{ap, sym, ◌∙◌, subst, arith}
use Rattle.std.specs.Int.{bit_at}
use native.Mathlib.Decide.{ℕ_discrete}
use mathlib.Core.Logic.{dite}
use Rattle.pool_parts.specs.Word.{ClearsBit, IsLeastBit}
use Rattle.pool_parts.specs.Ledger.{History, IsPrefixOf, WasOutBetween}
use Rattle.pool_parts.specs.PageRule.{User, GoesOn, Misses, MissesAll}
use Rattle.pool_parts.proofs.Ledger.{still_out, out_since}

-- the bits are tried from the lowest on, so a bit that is left has at most as many tries before it as there are bits
-- below it
pub more_tried : (untried bit left start before after : ℕ) → IsLeastBit untried bit → ClearsBit untried bit left
    → after ≡ before + 1
    → ((i : ℕ) → i < 32 → bit_at untried i ≡ 1 → before ≤ start + i) → (i : ℕ) → i < 32 → bit_at left i ≡ 1
    → after ≤ start + i
more_tried untried bit left start before after least clears more within i below one =
    let apart : i ≢ bit = λ same. let clear = clears.clear in let here = ap (bit_at left) same in
    absurd (omega arith) in
    grind (arith, clears.others i apart, within bit least.in_page least.set, least.lowest i)

module _ {T : Type 0} where
  -- one more bit was tried in vain
  pub out_or_untried : (from : History T) (place untried bit left : ℕ) (old new : User T) → ClearsBit untried bit left
      → Misses (32 * place + bit) old new → IsPrefixOf from new.0.operations
      → ((i : ℕ) → i < 32 → bit_at untried i ≡ 0
      → WasOutBetween old.0.opening from old.0.operations (32 * place + i))
      → (i : ℕ) → i < 32 → bit_at left i ≡ 0
      → WasOutBetween new.0.opening from new.0.operations (32 * place + i)
  out_or_untried from place untried bit left old new clears missed longer before i within none =
      dite (ℕ_discrete i bit)
      (λ same. subst (λ i. WasOutBetween new.0.opening from new.0.operations (32 * place + i)) (sym same)
      (out_since from new.0 (32 * place + bit) longer missed.was_out))
      (λ differ. still_out from old.0 new.0 (32 * place + i) missed.goes_on
      (before i within (sym (clears.others i differ) ∙ none)))

  -- each bit of a word was tried in vain
  pub word_missed : (place : ℕ) (old new : User T) → new.0.held ≡ old.0.held → new.1 ≡ old.1 → GoesOn [] old.0 new.0
      → ((bit : ℕ) → bit < 32
      → WasOutBetween new.0.opening old.0.operations new.0.operations (32 * place + bit))
      → MissesAll (32 * place) (32 * place + 32) old new
  word_missed place old new held carries goes each = record {
    holds_same = held;
    carries_same = carries;
    each_was_out = λ id from to. let whole : 32 * place + (id - 32 * place) ≡ id = omega arith in
        subst (WasOutBetween new.0.opening old.0.operations new.0.operations) whole
        (each (id - 32 * place) (omega arith));
    goes_on = goes;
  }
