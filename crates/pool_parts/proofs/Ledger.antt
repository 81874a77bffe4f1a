-- What follows from a page's history.
use Rattle.std.proofs.Common.{◌≡◌, ◌≢◌, ℕ, ◌<◌, ◌⊎◌, List, [], ◌∷◌, ◌++◌, length, Option, zero, suc}
use Rattle.std.proofs.Common.{set, refl, sym, ap, ◌∙◌, subst, arith, append_assoc, inl, inr, eq-eqb, ne_eqb}
use mathlib.Core.Option.{some, some-ne-none}
use lib.ListN.{get_elem?}
use Rattle.atomic_table.proofs.Lists.{at_set}
use Rattle.pool_parts.specs.declared.page.user_view.UserView.{UserView}
use Rattle.pool_parts.specs.PageRule.{IsSound, Knows, GoesOn, IsOutNow}
use Rattle.pool_parts.specs.declared.page.history.Operation.{Operation}
use Rattle.pool_parts.specs.declared.page.history.Operation.TheVariants.{Pull, Return}
use Rattle.pool_parts.specs.Ledger.{History, user_of, operations_of, IsLegal, IsPrefixOf, WasOutBetween}

-- where something stands in a list, it stands below its length
pub at_below : {A : Type 0} (list : List A) (place : ℕ) (there : A) → get_elem? list place ≡ some there
    → place < length list
at_below [] place there at = absurd (some-ne-none there (sym at))
at_below (one ∷ more) zero there at = omega arith
at_below (one ∷ more) (suc place) there at = let below = at_below more place there at in omega arith

module _ {T : Type 0} where
  pub prefix_same : (operations : History T) → IsPrefixOf operations operations
  prefix_same operations = ([], refl)

  pub prefix_further : (one two three : History T) → IsPrefixOf one two → IsPrefixOf two three → IsPrefixOf one three
  prefix_further one two three first second =
      (second.0 ++ first.0, second.1 ∙ ap (λ l. second.0 ++ l) first.1 ∙ sym (append_assoc second.0 first.0 one))

  prefix_operation : (one two : History T) (operation : Operation T) → IsPrefixOf one two
      → IsPrefixOf one (operation ∷ two)
  prefix_operation one two operation longer = (operation ∷ longer.0, ap (λ l. operation ∷ l) longer.1)

  pub operations_of_own : (user : ℕ) (operation : Operation T) (operations : History T) → user_of operation ≡ user
      → operations_of user (operation ∷ operations) ≡ operation ∷ operations_of user operations
  operations_of_own user (Pull who id value) operations same = rw (eq-eqb who user same) refl
  operations_of_own user (Return who id value) operations same = rw (eq-eqb who user same) refl

  pub operations_of_other : (user : ℕ) (operation : Operation T) (operations : History T) → user_of operation ≢ user
      → operations_of user (operation ∷ operations) ≡ operations_of user operations
  operations_of_other user (Pull who id value) operations differ = rw (ne_eqb who user differ) refl
  operations_of_other user (Return who id value) operations differ = rw (ne_eqb who user differ) refl

  abbrev pub behind : History T → History T
  behind [] = []
  behind (operation ∷ operations) = operations

  meet : (one two more rest : History T) → more ++ one ≡ rest ++ two → IsPrefixOf one two ⊎ IsPrefixOf two one
  meet one two [] rest same = inr (rest, same)
  meet one two (operation ∷ more) [] same = inl (operation ∷ more, sym same)
  meet one two (operation ∷ more) (other ∷ rest) same = meet one two more rest (ap behind same)

  -- of two prefixes of one history one is a prefix of the other
  pub comparable : (one two operations : History T) → IsPrefixOf one operations → IsPrefixOf two operations
      → IsPrefixOf one two ⊎ IsPrefixOf two one
  comparable one two operations first second = meet one two first.0 second.0 (sym first.1 ∙ second.1)

  -- another user's operation leaves what a user knows
  pub informed_later : (opening : List (Option T)) (operations : History T) (operation : Operation T) (user : ℕ)
      (known : UserView T) → user_of operation ≢ user → Knows opening operations user known
      → Knows opening (operation ∷ operations) user known
  informed_later opening operations operation user known differ knows = record {
    seen = prefix_operation known.operations operations operation knows.seen;
    merged = prefix_operation known.merged operations operation knows.merged;
    acting = λ here. let is = knows.acting here in record {
      sound = is.sound;
      number = is.number;
      same_opening = is.same_opening;
      own_so_far = operations_of_other user operation operations differ ∙ is.own_so_far;
    };
  }

  -- all users, once one's view has changed
  pub informed_set : (opening : List (Option T)) (operations : History T) (views : List (UserView T)) (user : ℕ)
      (new : UserView T)
      → ((other : ℕ) (known : UserView T) → other ≢ user → get_elem? views other ≡ some known
      → Knows opening operations other known)
      → Knows opening operations user new
      → (other : ℕ) (known : UserView T) → get_elem? (set views user new) other ≡ some known
      → Knows opening operations other known
  informed_set opening operations views user new others mine other known at =
      elim (at_set views user other new known at) [
        | inl here ↦ subst (λ (pair : ℕ × UserView T). Knows opening operations pair.0 pair.1) (λ i.
            (sym here.0 i, here.1 i)) mine
        | inr there ↦ others other known there.0 there.1
      ]

  -- what a user knows, of the values that the page opened with
  pub legal_of : (opening : List (Option T)) (known : UserView T) → known.opening ≡ opening → IsSound known
      → IsLegal opening known.operations
  legal_of opening known same is = subst (λ o. IsLegal o known.operations) same is.legal

  pub goes_on_further : (made : History T) (one two three : UserView T) → GoesOn [] one two → GoesOn made two three
      → GoesOn made one three
  goes_on_further made one two three first second = record {
    here = second.here;
    same_user = second.same_user ∙ first.same_user;
    same_opening = second.same_opening ∙ first.same_opening;
    same_since = second.same_since ∙ first.same_since;
    operations = (
      second.operations.0 ++ first.operations.0,
      second.operations.1 ∙ ap (λ l.
          made ++ l) (ap (λ l. second.operations.0 ++ l) first.operations.1
          ∙ sym (append_assoc second.operations.0 first.operations.0 one.operations)),
    );
    own_before = first.own_before;
    own = second.own ∙ ap (λ l. made ++ l) first.own;
    sound = second.sound;
  }

  -- what was observed taken since some place stays so
  pub still_out : (from : History T) (old new : UserView T) (id : ℕ) → GoesOn [] old new
      → WasOutBetween old.opening from old.operations id → WasOutBetween new.opening from new.operations id
  still_out from old new id goes was =
      subst (λ opening. WasOutBetween opening from new.operations id) (sym goes.same_opening) (
        was.0,
        was.1,
        prefix_further was.0 old.operations new.operations was.2 (goes.operations.0, goes.operations.1),
        was.3,
      )

  -- an item that is out now was out since any place before
  pub out_since : (from : History T) (known : UserView T) (id : ℕ) → IsPrefixOf from known.operations
      → IsOutNow known id → WasOutBetween known.opening from known.operations id
  out_since from known id longer out = (known.operations, longer, prefix_same known.operations, out)

  -- and what was so since one place was so since each before it
  pub out_longer : (opening : List (Option T)) (before from to : History T) (id : ℕ) → IsPrefixOf before from
      → WasOutBetween opening from to id → WasOutBetween opening before to id
  out_longer opening before from to id longer was =
      (was.0, prefix_further before from was.0 longer was.1, was.2, was.3)
