-- What happened to the values that a stack pool keeps, and what is known of it.
use Rattle.std.specs.Prelude.{◌≡◌, ◌⊎◌, List, [], ◌∷◌, Option, Some, None, IfSome, MatchOption, ⊤}
use Rattle.atomic_table.specs.Seated.{TableId}
use Rattle.history_lock.specs.History.{Known, IsPrefixOf}
use Rattle.stack_pools.specs.declared.operation.Operation.{Operation}
use Rattle.stack_pools.specs.declared.operation.Operation.TheVariants.{Pulled, Missed, Kept, Cleared, Counted}

module _ {T : Type 0} where
  -- the values behind the first one
  abbrev pub behind : List T → List T
  behind [] = []
  behind (_ ∷ values) = values

  -- what is kept after these operations, of which the last stands first: the value that was kept last stands first
  abbrev pub kept_by : List (Operation T) → List T
  kept_by [] = []
  kept_by (Pulled _ ∷ before) = behind (kept_by before)
  kept_by (Missed ∷ before) = kept_by before
  kept_by (Kept value ∷ before) = value ∷ kept_by before
  kept_by (Cleared ∷ before) = []
  kept_by (Counted ∷ before) = kept_by before

  -- an operation may follow where these values are kept: a pull takes the first of them, or finds that there is none
  abbrev pub MayFollow : List T → Operation T → Type 0
  MayFollow kept (Pulled value) = (others : List T) × (kept ≡ value ∷ others)
  MayFollow kept Missed = kept ≡ []
  MayFollow kept _ = ⊤

  -- each operation may follow on those before it
  abbrev pub IsLegal : List (Operation T) → Type 0
  IsLegal [] = ⊤
  IsLegal (operation ∷ before) = MayFollow (kept_by before) operation × IsLegal before

  -- the last operation is a pull of this value, which was kept last of the values that were kept
  pub record TookLast (history : List (Operation T)) (value : T) : Type 0 where
    pub before : List (Operation T)
    pub last : history ≡ Pulled value ∷ before
    pub was_first : kept_by before ≡ value ∷ kept_by history

  -- the last operation is a pull that took nothing, as nothing was kept
  pub record FoundNone (history : List (Operation T)) : Type 0 where
    pub before : List (Operation T)
    pub last : history ≡ Missed ∷ before
    pub none : kept_by before ≡ []

  -- a list answered this to a take: the value that was kept last, or none if nothing was kept
  abbrev pub IsTake : {R : Type 0} → Option (T × R) → Option (Known (Operation T)) → Type 0
  IsTake taken note =
      IfSome note (λ known. MatchOption taken (FoundNone known.history) (λ kept. TookLast known.history kept.0))

  -- the last operation kept this value
  abbrev pub KeptLast : List (Operation T) → T → Type 0
  KeptLast history value = (before : List (Operation T)) × (history ≡ Kept value ∷ before)

  -- the last operation took all values out
  abbrev pub WasCleared : List (Operation T) → Type 0
  WasCleared history = (before : List (Operation T)) × (history ≡ Cleared ∷ before)

  -- a note is of the list under this lock; of a list without a history it knows nothing
  abbrev pub IsNoteOf : Option TableId → Option (Known (Operation T)) → Type 0
  IsNoteOf None None = ⊤
  IsNoteOf (Some table) (Some known) = known.table ≡ table
  IsNoteOf _ _ = ⊥

  -- what is known later goes on from what was known
  abbrev pub GoesOn : Option (Known (Operation T)) → Option (Known (Operation T)) → Type 0
  GoesOn earlier later = IfSome earlier (λ known. IfSome later (λ more. IsPrefixOf known.history more.history))

  -- a pull gave this value: the one that was kept last, or one that was made where nothing was kept
  abbrev pub IsPull : (T → Type 0) → T → Option (Known (Operation T)) → Type 0
  IsPull made value note = IfSome note (λ known. TookLast known.history value ⊎ (FoundNone known.history × made value))

  -- a value came back: what the reset left of it was kept, or the reset rejected it and nothing more happened
  pub record IsGivenBack (leaves : T → T → Type 0) (rejects : T → Type 0) (value : T)
      (known later : Option (Known (Operation T))) : Type 0 where
    pub left : Option T
    pub by_reset : MatchOption left (rejects value) (λ new. leaves value new)
    pub kept : MatchOption left (later ≡ known) (λ new. IfSome later (λ more. KeptLast more.history new))
    pub goes_on : GoesOn known later

-- what a pulled value of a stack pool shows, or an attached one: the borrow or the owner of its pool, the value, and
-- what is known of the pool's history up to the pull or the attachment
pub record StackItemView (P T : Type 0) : Type 0 where
  pub pool : P
  pub value : T
  pub known : Option (Known (Operation T))
