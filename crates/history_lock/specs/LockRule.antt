-- For the proofs: what holds of a lock between any two steps, and what each kind of step tells. The word is 0 where the
-- lock is free and 1 where it is taken, and there is one place for the value.
use Rattle.std.specs.Prelude.{◌≡◌, ◌≢◌, ℕ, ◌<◌, List, [], ◌∷◌, length, slice_index, Option, Some, None, true, false}
use mathlib.Core.Option.{some}
use lib.ListN.{get_elem?}
use Rattle.atomic_table.specs.Seated.{TableId}
use Rattle.atomic_table.specs.Table.{State, Me}
use Rattle.history_lock.specs.declared.rule.Visitor.{Visitor}
use Rattle.history_lock.specs.History.{IsPrefixOf, Known}

-- what a visitor knows and holds
abbrev pub Guest : Type 0 → Type 0 → Type 0
Guest T E = Me (Option T) (Visitor E)

-- who has done nothing yet knows nothing
abbrev pub newcomer : {E : Type 0} → Visitor E
newcomer = record { holds = false; history = []; merged = [] }

module _ {E : Type 0} where
  -- one visitor, which doesn't hold the value
  abbrev pub IsPassing : List (Visitor E) → Type 0
  IsPassing views = (v : Visitor E) × (views ≡ v ∷ []) × (v.holds ≡ false)

  -- one visitor, which doesn't hold the value, or none
  abbrev pub IsPassingAtMost : List (Visitor E) → Type 0
  IsPassingAtMost [] = Unit {0}
  IsPassingAtMost (v ∷ others) = (others ≡ []) × (v.holds ≡ false)

  -- what a visitor of this table knows, if there is one
  abbrev pub known_by : TableId → List (Visitor E) → Option (Known E)
  known_by table [] = None
  known_by table (v ∷ _) = Some (record { table = table; history = v.history })

  -- what a visitor knows
  abbrev pub history_of : List (Visitor E) → List E
  history_of [] = []
  history_of (v ∷ _) = v.history

module _ {T E : Type 0} where
  pub record IsLocked (leaves : List E → T → Type 0) (s : State (Option T) (Visitor E)) : Type 0 where
    pub one_word : length s.words ≡ 1
    pub one_place : length s.homes ≡ 1
    pub free_or_taken : slice_index s.words 0 < 2
    -- the operations so far, and a value that they left
    pub history : List E
    pub left : (value : T) × leaves history value
    pub home_if_free : slice_index s.words 0 ≡ 0
        → (value : T) × (get_elem? s.homes 0 ≡ some (some (Some value))) × leaves history value
    pub taken_if_held : (j : ℕ) (v : Visitor E) → get_elem? s.views j ≡ some v → v.holds ≡ true
        → slice_index s.words 0 ≡ 1
    pub one_holder : (j k : ℕ) (v w : Visitor E) → get_elem? s.views j ≡ some v → v.holds ≡ true
        → get_elem? s.views k ≡ some w → w.holds ≡ true → j ≡ k
    -- what each visitor knows is a prefix of the history, and the holder knows all of it
    pub knows : (j : ℕ) (v : Visitor E) → get_elem? s.views j ≡ some v
        → IsPrefixOf v.history history × IsPrefixOf v.merged history
    pub holder_knows : (j : ℕ) (v : Visitor E) → get_elem? s.views j ≡ some v → v.holds ≡ true → v.history ≡ history

  -- a visitor has the value, and knows a history that leaves it and goes on from what it knew
  pub record Has (leaves : List E → T → Type 0) (old new : Guest T E) (value : T) : Type 0 where
    pub carries : new.1 ≡ (0, Some value) ∷ []
    pub holds : new.0.holds ≡ true
    pub goes_on : IsPrefixOf old.0.history new.0.history
    pub leaves_value : leaves new.0.history value

  -- an exchange takes the value where the word was free, and nothing where it was taken
  abbrev pub Takes : (List E → T → Type 0) → Guest T E → ℕ → Guest T E → Type 0
  Takes leaves old word new = (word ≡ 0 → (value : T) × Has leaves old new value) × (word ≢ 0 → new ≡ old)

  -- a store of free brings the value home, and adds an operation
  abbrev pub Frees : (List E → T → E) → Guest T E → Guest T E → Type 0
  Frees adds old new = (value : T) → old.1 ≡ (0, Some value) ∷ []
      → new ≡ (record { holds = false; history = adds old.0.history value ∷ old.0.history; merged = [] }, [])

  -- a load finds out all operations so far, which go on from what the visitor knew and from what was shared with it
  pub record Looks (leaves : List E → T → Type 0) (old new : Guest T E) : Type 0 where
    pub carries_same : new.1 ≡ old.1
    pub holds_same : new.0.holds ≡ old.0.holds
    pub goes_on : IsPrefixOf old.0.history new.0.history
    pub after_merged : IsPrefixOf old.0.merged new.0.history
    pub left : (value : T) × leaves new.0.history value
