-- A page's word and its places change together.
use Rattle.std.proofs.Common.{◌≡◌, ℕ, ◌<◌, ◌^◌, suc, zero, Option, Some, None, List, [], ◌∷◌, map, get_or}
use Rattle.std.proofs.Common.{slice_set, refl, sym, ap, ◌∙◌, arith, inl, inr, length-set}
use Rattle.std.specs.List.{slice_get}
use Rattle.std.specs.Int.{bit_at, w32, trailing_zeros}
use Rattle.std.proofs.lemmas.Bool.{cases_lt}
use Rattle.std.proofs.lemmas.List.{length-map}
use Rattle.std.proofs.lemmas.Nat.Bits.{bit_at-zero, bit_at_ones, bit_at-trailing_zeros}
use Rattle.std.proofs.lemmas.Option.{get_or_from_slice_get, slice_get_within}
use Rattle.pool_parts.specs.Word.{IsLeastBit, ClearsBit}
use Rattle.object_pool_cores.specs.OnePage.{IsMadePage, IsFreeId, HasNoFreeId, IsMask, TakesLeastId}
use Rattle.object_pool_cores.specs.Inside.PageWord.{IsCorePage}
use Rattle.object_pool_cores.specs.Laws.HeldItems.{slice_get-from_set}
use Rattle.pool_world.proofs.Places.{slice_get-some}
use Rattle.object_pool_cores.specs.Laws.NumberedPlaces.{value_of-page}

module _ {T : Type 0} where
  never_out : (values : List T) (id : ℕ) → slice_get (map Some values) id ≡ Some None → ⊥
  never_out [] id e = absurd cc
  never_out (v ∷ values) zero e = absurd cc
  never_out (v ∷ values) (suc id) e = never_out values id e

module _ {T : Type 0} (meets : T → Type 0) (word : ℕ) (page : List (Option T)) (kept : IsCorePage meets word page) where
  -- the id of a set bit is free
  pub free_at : (id : ℕ) → id < 32 → bit_at word id ≡ 1 → (v : T) × IsFreeId page id v
  free_at id within set = by_place (slice_get-some page id (let whole = kept.whole in omega arith))
    where
      by_place : (place : Option T) × (slice_get page id ≡ Some place) → (v : T) × IsFreeId page id v
      by_place (None, out) = let clear = kept.clear id out in absurd (omega arith)
      by_place (Some v, free) = (v, free)

  pub IsMask-kept : IsMask page word
  IsMask-kept id within = (free_at id within, λ free. kept.set id free.0 free.1)

  -- the word is 0 exactly where no id is free
  pub HasNoFreeId-zero : word ≡ 0 → HasNoFreeId page
  HasNoFreeId-zero none id v free =
      let set = kept.set id v free in
      let clear : bit_at word id ≡ 0 = ap (λ w. bit_at w id) none ∙ bit_at-zero id in
      absurd (omega arith)

  pub zero-HasNoFreeId : word < 2 ^ 32 → HasNoFreeId page → word ≡ 0
  zero-HasNoFreeId fits none = elim (cases_lt 0 word) [
    | inl some ↦
        let lowest = bit_at-trailing_zeros w32 word some fits in
        let free = free_at (trailing_zeros w32 word) lowest.0 lowest.1 in
        absurd (none (trailing_zeros w32 word) free.0 free.1)
    | inr none_set ↦ omega arith
  ]

  -- what lies at the id of the lowest bit
  pub IsFreeId-lowest : (id : ℕ) (place : Option T) (v : T) → IsLeastBit word id → place ≡ get_or page id place
      → Some v ≡ place → IsFreeId page id v
  IsFreeId-lowest id place v lowest here some =
      let free = free_at id lowest.in_page lowest.set in
      let value : Some free.0 ≡ Some v = sym (get_or_from_slice_get page id (Some free.0) place free.1) ∙ sym here
      ∙ sym some in
      free.1 ∙ ap Some value

  -- the lowest bit is cleared, and its value is taken
  pub IsCorePage-taken : (id rest : ℕ) → ClearsBit word id rest → IsCorePage meets rest (slice_set page id None)
  IsCorePage-taken id rest clears = record {
    whole = length-set page id None ∙ kept.whole;
    set = λ other v free. elim (slice_get-from_set page id other None (Some v) free) [
      | inl here ↦ let never = here.1 in absurd cc
      | inr apart ↦ clears.others other apart.0 ∙ kept.set other v apart.1
    ];
    clear = λ other out. elim (slice_get-from_set page id other None None out) [
      | inl here ↦ ap (bit_at rest) here.0 ∙ clears.clear
      | inr apart ↦ clears.others other apart.0 ∙ kept.clear other apart.1
    ];
    clean = λ other v free. elim (slice_get-from_set page id other None (Some v) free) [
      | inl here ↦ let never = here.1 in absurd cc
      | inr apart ↦ kept.clean other v apart.1
    ];
  }

  pub TakesLeastId-lowest : (id : ℕ) (v : T) → IsLeastBit word id → IsFreeId page id v
      → TakesLeastId page id v (slice_set page id None)
  TakesLeastId-lowest id v lowest free = record {
    in_page = lowest.in_page;
    free = free;
    least = λ lower w below there. let set = kept.set lower w there in let clear = lowest.lowest lower below in
        absurd (omega arith);
    taken = refl;
  }

-- each bit of a new page's word is set
pub IsKept-made : {T : Type 0} (answers : Option T → Type 0) (meets : T → Type 0) (page : List (Option T))
    → IsMadePage answers meets page → IsCorePage meets 4294967295 page
IsKept-made answers meets page made = rw made.free (record {
  whole = length-map made.values Some ∙ made.answered.count;
  set = λ id v free.
      let value = value_of-page made.values id v free in
      let within = slice_get_within made.values id v value in
      let count = made.answered.count in
      bit_at_ones 32 id (omega arith);
  clear = λ id out. absurd (never_out made.values id out);
  clean = λ id v free.
      let value = value_of-page made.values id v free in
      rw (get_or_from_slice_get made.values id v v value) at
      (made.clean id v (slice_get_within made.values id v value));
})

-- what init answered, said in other words
pub IsMadePage-map : {T : Type 0} (answers others : Option T → Type 0) (meets : T → Type 0) (page : List (Option T))
    → ((v : T) → answers (Some v) → others (Some v)) → IsMadePage answers meets page → IsMadePage others meets page
IsMadePage-map answers others meets page leads made = record {
  values = made.values;
  answered = record {
    count = made.answered.count;
    each = λ k d within. leads (get_or made.values k d) (made.answered.each k d within);
  };
  clean = made.clean;
  free = made.free;
}
