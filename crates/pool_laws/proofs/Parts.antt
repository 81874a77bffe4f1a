-- Each legal history of a pool falls into legal histories of its pages (`part`): its parts, merged
-- again, are the same operations (`merges-again`), so that the merging law can be read backwards.
use Rattle.std.proofs.Common.{◌≡◌, ℕ, ◌/◌, ◌%◌, Some, List, [], ◌∷◌, ◌++◌, map, length}
use Rattle.std.proofs.Common.{refl, ap, sym, subst, arith}
use Rattle.std.proofs.lemmas.Nat.{div-add-mod', mod_below}
use Rattle.pool_parts.specs.declared.page.history.Operation.{Operation}
use Rattle.pool_parts.specs.declared.page.history.Operation.TheVariants.{Pull, Return}
use Rattle.pool_parts.specs.Ledger.{MayFollow}
use Rattle.pool_world.specs.Pool.{number}
use Rattle.pool_world.specs.Run.{Act, Operates, Grows, ledger_of, made, opened, AreLegalActs}
use Rattle.pool_laws.specs.Steps.{AreInOrder, AreLegalPages, merged}
use Rattle.pool_laws.specs.Parts.{parted, MergeAgain}
use Rattle.pool_laws.proofs.Merging.{AreNumbered, split}

-- each user under its own number
abbrev same_name : ℕ → ℕ → ℕ
same_name page user = user

whole : (n : ℕ) → number (n / 32) (n % 32) ≡ n
whole n = let parts = div-add-mod' n 32 in omega (arith, parts)

module _ {T : Type 0} where
  parted-numbered : (acts : List (Act T)) → AreNumbered (parted acts)
  parted-numbered [] = tt
  parted-numbered (Operates (Pull user n value) ∷ acts) = (mod_below n 32 (omega arith), parted-numbered acts)
  parted-numbered (Operates (Return user n value) ∷ acts) = (mod_below n 32 (omega arith), parted-numbered acts)
  parted-numbered (Grows agent values ∷ acts) = parted-numbered acts
  parted-numbered (act ∷ acts) = parted-numbered acts

  -- what was parted is merged again
  parted-ledger : (acts : List (Act T)) → ledger_of (merged same_name (parted acts)) ≡ ledger_of acts
  parted-ledger [] = refl
  parted-ledger (Operates (Pull user n value) ∷ acts) = λ i. Pull user (whole n i) value ∷ parted-ledger acts i
  parted-ledger (Operates (Return user n value) ∷ acts) = λ i. Return user (whole n i) value ∷ parted-ledger acts i
  parted-ledger (Grows agent values ∷ acts) = parted-ledger acts
  parted-ledger (act ∷ acts) = parted-ledger acts

  parted-made : (first : List T) (acts : List (Act T)) → made first (merged same_name (parted acts)) ≡ made first acts
  parted-made first [] = refl
  parted-made first (Operates (Pull user n value) ∷ acts) = parted-made first acts
  parted-made first (Operates (Return user n value) ∷ acts) = parted-made first acts
  parted-made first (Grows agent values ∷ acts) = ap (λ made. made ++ values) (parted-made first acts)
  parted-made first (act ∷ acts) = parted-made first acts

  parted-may : (first : List T) (acts : List (Act T)) (operation there : Operation T) → there ≡ operation
      → MayFollow (opened first acts) (ledger_of acts) operation
      → MayFollow (opened first (merged same_name (parted acts))) (ledger_of (merged same_name (parted acts))) there
  parted-may first acts operation there same may =
      subst (λ made. MayFollow (map Some made) (ledger_of (merged same_name (parted acts))) there)
      (sym (parted-made first acts))
      (subst (λ ledger. MayFollow (opened first acts) ledger there) (sym (parted-ledger acts))
      (subst (MayFollow (opened first acts) (ledger_of acts)) (sym same) may))

  parted-one : (first : List T) (acts : List (Act T)) → AreLegalActs first acts
      → AreLegalActs first (merged same_name (parted acts))
  parted-one first [] one = tt
  parted-one first (Operates (Pull user n value) ∷ acts) one = (
    parted-may first acts (Pull user n value) _ (λ i. Pull user (whole n i) value) one.0,
    parted-one first acts one.1,
  )
  parted-one first (Operates (Return user n value) ∷ acts) one = (
    parted-may first acts (Return user n value) _ (λ i. Return user (whole n i) value) one.0,
    parted-one first acts one.1,
  )
  parted-one first (Grows agent values ∷ acts) one = (one.0, parted-one first acts one.1)
  parted-one first (act ∷ acts) one = parted-one first acts one

  pub merges-again : (first : List T) (acts : List (Act T)) → MergeAgain first acts
  merges-again first acts = record { values = parted-made first acts; operations = parted-ledger acts }

  -- each legal history of a pool that grows falls into legal histories of its pages, in which each
  -- operation comes after its page was linked
  pub part : (first : List T) → length first ≡ 32 → (acts : List (Act T)) → AreLegalActs first acts
      → AreInOrder (parted acts) × AreLegalPages first (parted acts)
  part first full acts one =
      split same_name first full (λ page user who same. same) (parted acts) (parted-numbered acts)
      (parted-one first acts one)
