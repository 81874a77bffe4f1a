-- The ledger: what is done with the items of one pool, one operation after another. The last operation stands first.
-- A page's ledger is of its 32 numbers, and that of a fixed pool of all its numbers; neither grows. The pulls and
-- returns of a world's agents, in the crate above, are a ledger too, to whose opening each page that is linked adds its
-- values.
use Rattle.std.proofs.Common.{refl, sym, ap, ◌∙◌, subst, inl, inr, eq-eqb, ne_eqb}
use Rattle.std.specs.Prelude.{◌≡◌, ◌≢◌, ◌⊎◌, ℕ, ◌+◌, ◌<◌, ◌==◌, if◌then◌else◌, Bool, List, [], ◌∷◌, ◌++◌, get_or}
use Rattle.std.specs.Prelude.{Option, Some, None, ⊤}
use native.Mathlib.Decide.{ℕ_discrete}
use mathlib.Core.Logic.{dite}
use Rattle.pool_parts.specs.declared.page.history.Operation.{Operation}
use Rattle.pool_parts.specs.declared.page.history.Operation.TheVariants.{Pull, Return}

-- a sequential history: pulls and returns, of which the last stands first
abbrev pub History : Type 0 → Type 0
History T = List (Operation T)

module _ {T : Type 0} where
  -- who pulls or returns
  abbrev pub user_of : Operation T → ℕ
  user_of (Pull user id value) = user
  user_of (Return user id value) = user

  -- the number of the item that is pulled or returned
  abbrev pub id_of : Operation T → ℕ
  id_of (Pull user id value) = id
  id_of (Return user id value) = id

  -- no operation is on this number
  abbrev pub NoOperationOn : ℕ → History T → Type 0
  NoOperationOn id [] = ⊤
  NoOperationOn id (operation ∷ before) = (id_of operation ≢ id) × NoOperationOn id before

  -- the operations of one user
  abbrev pub operations_of : ℕ → History T → History T
  operations_of user [] = []
  operations_of user (Pull who id value ∷ before) =
      if who == user then Pull who id value ∷ operations_of user before else operations_of user before
  operations_of user (Return who id value ∷ before) =
      if who == user then Return who id value ∷ operations_of user before else operations_of user before

  -- the number that a user holds after its own operations: from its pull to its return
  abbrev pub held_id : History T → Option ℕ
  held_id [] = None
  held_id (Pull user id value ∷ before) = Some id
  held_id (Return user id value ∷ before) = None

  -- what an operation leaves at its number
  abbrev pub left_by : Operation T → Option T
  left_by (Pull user id value) = None
  left_by (Return user id value) = Some value

  -- what lies at a number, in a pool that opened with these values: nothing after a pull of it, what came back after a
  -- return, and the opening's where no operation was on it
  abbrev pub value_at : List (Option T) → History T → ℕ → Option T
  value_at opening [] id = get_or opening id None
  value_at opening (Pull user place value ∷ before) id = if place == id then None else value_at opening before id
  value_at opening (Return user place value ∷ before) id =
      if place == id then Some value else value_at opening before id

  -- an operation may come after these: who holds nothing pulls exactly the value that lies there; who pulled a number
  -- and hasn't returned it returns it, where nothing lies
  abbrev pub MayFollow : List (Option T) → History T → Operation T → Type 0
  MayFollow opening before (Pull user id value) =
      (value_at opening before id ≡ Some value) × (held_id (operations_of user before) ≡ None)
  MayFollow opening before (Return user id value) =
      (value_at opening before id ≡ None) × (held_id (operations_of user before) ≡ Some id)

  -- a history is legal where each operation may come after those before it
  abbrev pub IsLegal : List (Option T) → History T → Type 0
  IsLegal opening [] = ⊤
  IsLegal opening (operation ∷ before) = MayFollow opening before operation × IsLegal opening before

  -- one history is a prefix of another, which goes on from it
  abbrev pub IsPrefixOf : History T → History T → Type 0
  IsPrefixOf prefix history = (later : History T) × (history ≡ later ++ prefix)

  -- a number was out between two places of a history: at some place from the one to the other nothing lay there
  abbrev pub WasOutBetween : List (Option T) → History T → History T → ℕ → Type 0
  WasOutBetween opening from to id =
      (place : History T) × IsPrefixOf from place × IsPrefixOf place to × (value_at opening place id ≡ None)

  -- no number was free between two places of a history: at some place from the one to the other, which is the same for
  -- all of so many numbers
  abbrev pub WasFullBetween : List (Option T) → History T → History T → ℕ → Type 0
  WasFullBetween opening from to count =
      (place : History T) × IsPrefixOf from place × IsPrefixOf place to
      × ((id : ℕ) → id < count → value_at opening place id ≡ None)

  -- each value with which a number was returned meets the condition
  abbrev pub EachReturned : (T → Type 0) → History T → Type 0
  EachReturned meets [] = ⊤
  EachReturned meets (Pull user id value ∷ before) = EachReturned meets before
  EachReturned meets (Return user id value ∷ before) = meets value × EachReturned meets before

  -- how many returns there are of the numbers that pass a test
  abbrev pub returns_among : (ℕ → Bool) → History T → ℕ
  returns_among passes [] = 0
  returns_among passes (Pull user id value ∷ before) = returns_among passes before
  returns_among passes (Return user id value ∷ before) =
      if passes id then returns_among passes before + 1 else returns_among passes before

  -- somebody returned this number with this value, and no operation was on it since
  pub record WasReturned (history : History T) (id : ℕ) (value : T) : Type 0 where
    pub user : ℕ
    pub later : History T
    pub before : History T
    pub here : history ≡ later ++ (Return user id value ∷ before)
    pub untouched : NoOperationOn id later

  -- where a value comes from that lies at a number: the last return of this number left it, or no operation was on the
  -- number and the pool opened with it
  abbrev pub CameFrom : List (Option T) → History T → ℕ → T → Type 0
  CameFrom opening history id value =
      WasReturned history id value ⊎ (NoOperationOn id history × (get_or opening id None ≡ Some value))

  returned : (operation : Operation T) (operations : History T) (id : ℕ) (value : T) → id_of operation ≡ id
      → left_by operation ≡ Some value → WasReturned (operation ∷ operations) id value
  returned (Pull user place took) operations id value same left = absurd (cc)
  returned (Return user place kept) operations id value same left = let is : kept ≡ value = cc in record {
    user = user;
    later = [];
    before = operations;
    here = λ k. Return user (same k) (is k) ∷ operations;
    untouched = tt;
  }

  came_later : (opening : List (Option T)) (operation : Operation T) (operations : History T) (id : ℕ) (value : T)
      → id_of operation ≢ id → CameFrom opening operations id value → CameFrom opening (operation ∷ operations) id value
  came_later opening operation operations id value differ came = elim came [
    | inl was ↦ inl record {
      user = was.user;
      later = operation ∷ was.later;
      before = was.before;
      here = ap (λ l. operation ∷ l) was.here;
      untouched = (differ, was.untouched);
    }
    | inr first ↦ inr ((differ, first.0), first.1)
  ]

  pub value_at-here : (opening : List (Option T)) (operation : Operation T) (before : History T) (id : ℕ)
      → id_of operation ≡ id → value_at opening (operation ∷ before) id ≡ left_by operation
  value_at-here opening (Pull user place value) before id same = rw (eq-eqb place id same) refl
  value_at-here opening (Return user place value) before id same = rw (eq-eqb place id same) refl

  pub value_at-elsewhere : (opening : List (Option T)) (operation : Operation T) (before : History T) (id : ℕ)
      → id_of operation ≢ id → value_at opening (operation ∷ before) id ≡ value_at opening before id
  value_at-elsewhere opening (Pull user place value) before id differ = rw (ne_eqb place id differ) refl
  value_at-elsewhere opening (Return user place value) before id differ = rw (ne_eqb place id differ) refl

  -- what lies at a number is what the last return of this very number left, or the opening's
  pub came_from : (opening : List (Option T)) (operations : History T) (id : ℕ) (value : T)
      → value_at opening operations id ≡ Some value → CameFrom opening operations id value
  came_from opening [] id value there = inr (tt, there)
  came_from opening (operation ∷ operations) id value there = dite (ℕ_discrete (id_of operation) id)
      (λ same. inl (returned operation operations id value same
      (sym (value_at-here opening operation operations id same) ∙ there)))
      (λ differ. came_later opening operation operations id value differ
      (came_from opening operations id value
      (sym (value_at-elsewhere opening operation operations id differ) ∙ there)))

  -- so it is with what a pull takes if a legal history ends with it, as `legal` and `last` of an
  -- item say
  pub pulled_from : (opening : List (Option T)) (history before : History T) (user id : ℕ) (value : T)
      → IsLegal opening history → history ≡ Pull user id value ∷ before → CameFrom opening before id value
  pulled_from opening history before user id value legal last =
      let known : IsLegal opening (Pull user id value ∷ before) = subst (IsLegal opening) last legal in
      came_from opening before id value known.0.0
