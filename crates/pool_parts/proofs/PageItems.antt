-- Who holds which item of a page after a step, and what lies at home.
use Rattle.atomic_table.specs.Table.{State}
use Rattle.std.proofs.Common.{◌≡◌, ◌≢◌, ℕ, zero, suc, ◌<◌, ◌⊎◌, List, [], ◌∷◌, ◌++◌, length, set, Option}
use Rattle.std.proofs.Common.{Some, None, refl, sym, ◌∙◌, ap, subst, arith, length-set, inl, inr}
use mathlib.Core.Option.{some, none, some-injective, some-ne-none}
use mathlib.Core.Option as maybe
use lib.ListN.{get_elem?}
use native.Mathlib.Decide.{ℕ_discrete}
use mathlib.Core.Logic.{dite}
use Rattle.atomic_table.proofs.Lists.{at_set, at_snoc, set_here, set_else}
use Rattle.pool_parts.specs.declared.page.user_view.UserView.{UserView}
use Rattle.pool_parts.specs.PageRule.{item_bit, UserHolds, IsPage}
use Rattle.pool_parts.proofs.WordBits.{Turns}

-- what stands in a list of one element
pub only_one : {A : Type 0} (one there : A) (place : ℕ) → get_elem? (one ∷ []) place ≡ some there
    → (0 ≡ place) × (one ≡ there)
only_one one there zero at = (refl, some-injective one there at)
only_one one there (suc place) at = absurd (some-ne-none there (sym at))

-- what stands in a list with one more element at its end
pub at_snoc_last : {A : Type 0} (list : List A) (last there : A) (place : ℕ)
    → get_elem? (list ++ last ∷ []) place ≡ some there
    → (get_elem? list place ≡ some there) ⊎ ((length list ≡ place) × (last ≡ there))
at_snoc_last [] last there place at = inr (only_one last there place at)
at_snoc_last (first ∷ list) last there zero at = inl at
at_snoc_last (first ∷ list) last there (suc place) at = elim (at_snoc_last list last there place at) [
  | inl before ↦ inl before
  | inr is ↦ inr (ap suc is.0, is.1)
]

module _ {T : Type 0} where
  abbrev pub state : List ℕ → List (maybe.Option (Option T)) → List (UserView T) → State (Option T) (UserView T)
  state words homes views = record { words = words; homes = homes; views = views }

  -- who holds an item, once the view of one user has changed
  pub holds_after : (page : State (Option T) (UserView T)) (words : List ℕ) (homes : List (maybe.Option (Option T)))
      (user : ℕ)
      (known : UserView T) (other id : ℕ) → UserHolds (state words homes (set page.views user known)) other id
      → ((other ≡ user) × (known.held ≡ Some id)) ⊎ ((other ≢ user) × UserHolds page other id)
  holds_after page words homes user known other id holds = elim (at_set page.views user other known holds.0 holds.1) [
    | inl here ↦ inl (here.0, ap (λ (known : UserView T). known.held) here.1 ∙ holds.2)
    | inr there ↦ inr (there.0, (holds.0, there.1, holds.2))
  ]

module _ {T : Type 0} (meets : T → Type 0) where
  -- who joins holds nothing
  pub held_before : (page : State (Option T) (UserView T)) (known : UserView T) → known.held ≡ None → (user id : ℕ)
      → UserHolds (state page.words page.homes (page.views ++ known ∷ [])) user id → UserHolds page user id
  held_before page known holds_none user id holds = elim (at_snoc page.views known holds.0 user holds.1) [
    | inl before ↦ (holds.0, before, holds.2)
    | inr new ↦ let none_held : None ≡ Some id =
        sym holds_none ∙ ap (λ (known : UserView T). known.held) new ∙ holds.2 in absurd (cc)
  ]

  pub joins_page : (page : State (Option T) (UserView T)) (known : UserView T) → IsPage meets page → known.held ≡ None
      → IsPage meets (state page.words page.homes (page.views ++ known ∷ []))
  joins_page page known is holds_none = record {
    all_places = is.all_places;
    free_is_home = is.free_is_home;
    held_is_out = λ user id holds. is.held_is_out user id (held_before page known holds_none user id holds);
    one_holder = λ user other id one two. is.one_holder user other id (held_before page known holds_none user id one)
        (held_before page known holds_none other id two);
  }

  -- a bit is cleared that was set: the item goes out with the user
  pub takes_item : (page : State (Option T) (UserView T)) (words : List ℕ) (user id : ℕ) (known : UserView T)
      → IsPage meets page
      → id < length page.homes → Turns page.words id 0 words → item_bit page.words id ≡ 1 → known.held ≡ Some id
      → IsPage meets (state words (set page.homes id none) (set page.views user known))
  takes_item page words user id known is within turned free holds_id =
      let after = holds_after page words (set page.homes id none) user known in
      let places = length-set page.homes id none in
      let alone : (other i : ℕ) → known.held ≡ Some i → UserHolds page other i → ⊥ = λ other i mine theirs.
      let same : id ≡ i = cc (holds_id, mine) in
      let here = ap (item_bit page.words) same in
      omega (arith, (is.held_is_out other i theirs).1) in
      record {
        all_places = let all = is.all_places in let count = turned.same_count in omega arith;
        free_is_home = λ i set_now.
            let other : i ≢ id = λ same. let clear = turned.here in let here = ap (item_bit words) same in
            absurd (omega arith) in
            let found = is.free_is_home i (sym (turned.others i other) ∙ set_now) in
            (found.0, set_else page.homes id i none other ∙ found.1, found.2);
        held_is_out = λ other i holds. elim (after other i holds) [
          | inl mine ↦ let same : id ≡ i = cc (holds_id, mine.1) in
              subst (λ i. (i < length (set page.homes id none)) × (item_bit words i ≡ 0)) same
              (omega arith, turned.here)
          | inr theirs ↦
              let out = is.held_is_out other i theirs.1 in
              let differ : i ≢ id = λ same. alone other i (holds_id ∙ ap Some (sym same)) theirs.1 in
              (omega (arith, out.0), turned.others i differ ∙ out.1)
        ];
        one_holder = λ one two i holds_one holds_two. elim (after one i holds_one) [
          | inl mine ↦ elim (after two i holds_two) [
            | inl also ↦ mine.0 ∙ sym also.0
            | inr theirs ↦ absurd (alone two i mine.1 theirs.1)
          ]
          | inr theirs ↦ elim (after two i holds_two) [
            | inl mine ↦ absurd (alone one i mine.1 theirs.1)
            | inr both ↦ is.one_holder one two i theirs.1 both.1
          ]
        ];
      }

  -- no bit has changed: the page is as it was, and one user knows more
  pub keeps_item : (page : State (Option T) (UserView T)) (words : List ℕ) (user : ℕ) (old known : UserView T)
      → IsPage meets page
      → length words ≡ length page.words → ((i : ℕ) → item_bit words i ≡ item_bit page.words i)
      → get_elem? page.views user ≡ some old
      → ((i : ℕ) → known.held ≡ Some i → old.held ≡ Some i)
      → IsPage meets (state words page.homes (set page.views user known))
  keeps_item page words user old known is count same_bits at held_before =
      let held : (other i : ℕ) → UserHolds (state words page.homes (set page.views user known)) other i
      → UserHolds page other i = λ other i holds. elim (holds_after page words page.homes user known other i holds) [
        | inl mine ↦ subst (λ one. UserHolds page one i) (sym mine.0) (old, at, held_before i mine.1)
        | inr theirs ↦ theirs.1
      ] in
      record {
        all_places = let all = is.all_places in omega arith;
        free_is_home = λ i set_now. is.free_is_home i (sym (same_bits i) ∙ set_now);
        held_is_out = λ other i holds. let was = is.held_is_out other i (held other i holds) in
            (was.0, same_bits i ∙ was.1);
        one_holder = λ one two i holds_one holds_two. is.one_holder one two i (held one i holds_one)
            (held two i holds_two);
      }

  -- a bit is set that its holder's value is home for: the item is free again
  pub gives_item : (page : State (Option T) (UserView T)) (words : List ℕ) (user id : ℕ) (old : UserView T) (value : T)
      (known : UserView T)
      → IsPage meets page → id < length page.homes → Turns page.words id 1 words
      → get_elem? page.views user ≡ some old → old.held ≡ Some id → meets value → known.held ≡ None
      → IsPage meets (state words (set page.homes id (some (Some value))) (set page.views user known))
  gives_item page words user id old value known is within turned at holds met holds_none =
      let homes = set page.homes id (some (Some value)) in
      let places = length-set page.homes id (some (Some value)) in
      let after : (other i : ℕ) → UserHolds (state words homes (set page.views user known)) other i
      → (other ≢ user) × UserHolds page other i =
      λ other i holds_i. elim (holds_after page words homes user known other i holds_i) [
        | inl mine ↦ let none_held : None ≡ Some i = sym holds_none ∙ mine.1 in absurd (cc)
        | inr theirs ↦ theirs
      ] in
      record {
        all_places = let all = is.all_places in let count = turned.same_count in omega arith;
        free_is_home = λ i set_now. dite (ℕ_discrete i id)
            (λ same. (
              value,
              subst (λ i. get_elem? homes i ≡ some (some (Some value))) (sym same)
                  (set_here page.homes id (some (Some value)) within),
              met,
            ))
            (λ differ. let found = is.free_is_home i (sym (turned.others i differ) ∙ set_now) in
            (found.0, set_else page.homes id i (some (Some value)) differ ∙ found.1, found.2));
        held_is_out = λ other i holds_i.
            let theirs = after other i holds_i in
            let out = is.held_is_out other i theirs.1 in
            let below = out.0 in
            let differ : i ≢ id =
            λ same. theirs.0 (is.one_holder other user id (subst (UserHolds page other) same theirs.1)
            (old, at, holds)) in
            (omega arith, turned.others i differ ∙ out.1);
        one_holder = λ one two i holds_one holds_two. is.one_holder one two i (after one i holds_one).1
            (after two i holds_two).1;
      }
