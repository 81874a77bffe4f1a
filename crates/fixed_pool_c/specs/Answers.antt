-- What the exported calls answer, told by what a handle shows before and after: nothing, where it
-- is empty, or its pool and its state.
use Rattle.std.specs.Prelude.{◌≡◌, ℕ, ◌+◌, ◌*◌, ◌/◌, ◌⊎◌, ⊤, Option, Some, None}
use Rattle.std.specs.Arc.{arc_value}
use Rattle.fixed_pools.specs.FixedPool.{IsFullNote, returns_since, IsWithin, fixed_view}
use Rattle.pool_parts.specs.Page.{IsGivenBack, IsNoteOf, view_of}
use Rattle.pool_parts.specs.Item.{IsFilled, IsPulled}
use Rattle.pool_parts.specs.declared.page.note.PageNote.{PageNote}
use Rattle.fixed_pool_c.specs.Shows.{PlacePool, PlaceInUse, state_pool, final_note_of}
use Rattle.fixed_pool_c.specs.declared.answer.TheConstants.{DONE, ALL_IN_USE, HOLDS_ONE, HOLDS_NONE, NO_POOL, HAS_POOL}
use Rattle.fixed_pool_c.specs.declared.answer.TheConstants.{NO_PLACES, NO_MEMORY}
use Rattle.fixed_pool_c.specs.declared.open_handle.HandleState.{HandleState}
use Rattle.fixed_pool_c.specs.declared.open_handle.HandleState.TheVariants.{Empty, Full}
use Rattle.fixed_pool_c.specs.declared.open_handle.OpenHandle.{OpenHandle}
use Rattle.fixed_pool_c.specs.declared.open_handle.Idle.{Idle}
use Rattle.fixed_pool_c.specs.declared.open_handle.FinalNote.{FinalNote}

-- the handle held no place, and holds this one: the last operation of a legal sequential history of
-- the whole pool is this pull of this number, after all that the handle knew
pub record Pulls (old new : OpenHandle) (place : ℕ) : Type 0 where
  pub idle : Idle
  pub held_none : old.state ≡ Some (Empty idle)
  pub out : PlaceInUse
  pub holds : new.state ≡ Some (Full out)
  pub same_pool : arc_value out.pool ≡ arc_value idle.pool
  pub pulled : IsPulled (fixed_view (arc_value idle.pool)).identity (view_of idle.note.seat) out.item
  pub number : place ≡ out.item.id
  -- the pull's user made so many loads and tries at most in the first pass, and in a further one
  -- for each return meanwhile
  pub steps : IsWithin ((fixed_view (arc_value idle.pool)).pages * (returns_since out.known + 1))
      (view_of idle.note.seat).loads (view_of idle.note.seat).tries out.known

-- the handle held no place, and holds none: at one moment of the call all places were out (or 2^32
-- returns and more came within it), and the call made so many loads and tries at most
pub record FindsAllInUse (old new : OpenHandle) : Type 0 where
  pub idle : Idle
  pub held_none : old.state ≡ Some (Empty idle)
  pub later : Idle
  pub holds_none : new.state ≡ Some (Empty later)
  pub same_pool : arc_value later.pool ≡ arc_value idle.pool
  pub full : IsFullNote (fixed_view (arc_value idle.pool)).identity (view_of idle.note.seat) later.note

-- the handle held a place, and holds none: the place was returned, and the handle's history ends
-- with its return
pub record Returns (old new : OpenHandle) : Type 0 where
  pub out : PlaceInUse
  pub held_one : old.state ≡ Some (Full out)
  pub idle : Idle
  pub holds_none : new.state ≡ Some (Empty idle)
  pub same_pool : arc_value idle.pool ≡ arc_value out.pool
  pub given_back : IsGivenBack (λ old new. new ≡ old) out.item idle.note

-- a new handle of this pool, which has this tag: it holds no place, and knows some prefix of the
-- pool's history
pub record OpensOf (pool : PlacePool) (tag : ℕ) (new : OpenHandle) : Type 0 where
  pub idle : Idle
  pub same_tag : new.tag ≡ tag
  pub holds_none : new.state ≡ Some (Empty idle)
  pub same_pool : arc_value idle.pool ≡ pool
  pub note : IsNoteOf (fixed_view pool).identity (fixed_view pool).opening idle.note

-- the first handle of a new pool of so many free places, which has this tag
pub record OpensNew (items tag : ℕ) (new : OpenHandle) : Type 0 where
  pub pool : PlacePool
  pub opens : OpensOf pool tag new
  pub count : (fixed_view pool).items ≡ items
  pub pages : (fixed_view pool).pages ≡ (items + 31) / 32
  pub free : IsFilled items (λ value. Some value ≡ Some tt) (fixed_view pool).opening

-- a further handle of the pool that the other has
pub record Shares (held other : OpenHandle) : Type 0 where
  pub state : HandleState
  pub has : held.state ≡ Some state
  pub opens : OpensOf (state_pool state) held.tag other

-- a call that did nothing: the handle has the place that it had
pub record KeepsPlace (old new : OpenHandle) : Type 0 where
  pub out : PlaceInUse
  pub held_one : old.state ≡ Some (Full out)
  pub holds_same : new.state ≡ Some (Full out)

-- the same of a handle that holds no place
pub record KeepsNone (old new : OpenHandle) : Type 0 where
  pub idle : Idle
  pub held_none : old.state ≡ Some (Empty idle)
  pub holds_none : new.state ≡ Some (Empty idle)

-- both are open, at the same tag, and this holds of what they have
abbrev pub Open : Option OpenHandle → Option OpenHandle → (OpenHandle → OpenHandle → Type 0) → Type 0
Open old new holds = (held : OpenHandle) × (later : OpenHandle) × (old ≡ Some held) × (new ≡ Some later)
    × (later.tag ≡ held.tag) × holds held later

-- the handle is empty (or is taken apart, as within a call)
abbrev pub HasNoPool : Option OpenHandle → Type 0
HasNoPool None = ⊤
HasNoPool (Some held) = held.state ≡ None

-- what a pull answers, by its number
abbrev pub IsPullAnswer : ℕ → Option OpenHandle → Option OpenHandle → ℕ → ℕ → Type 0
IsPullAnswer number old new before after =
    ((number ≡ DONE) × Open old new (λ held later. Pulls held later after))
    ⊎ (((number ≡ ALL_IN_USE) × (after ≡ before) × Open old new FindsAllInUse)
    ⊎ (((number ≡ HOLDS_ONE) × (after ≡ before) × Open old new KeepsPlace)
    ⊎ ((number ≡ NO_POOL) × (after ≡ before) × HasNoPool old × HasNoPool new)))

-- what a return answers, by its number
abbrev pub IsReturnAnswer : ℕ → Option OpenHandle → Option OpenHandle → Type 0
IsReturnAnswer number old new =
    ((number ≡ DONE) × Open old new Returns)
    ⊎ (((number ≡ HOLDS_NONE) × Open old new KeepsNone)
    ⊎ ((number ≡ NO_POOL) × HasNoPool old × HasNoPool new))

-- the handle that was to be made is open already, and stays as it was
abbrev pub IsInUse : Option OpenHandle → Option OpenHandle → Type 0
IsInUse old new = (held : OpenHandle) × (old ≡ Some held) × (new ≡ Some held)

-- no handle was made
abbrev pub StaysEmpty : Option OpenHandle → Option OpenHandle → Type 0
StaysEmpty old new = (old ≡ None) × (new ≡ None)

-- what the making of a pool of so many places answers
abbrev pub IsNewAnswer : ℕ → ℕ → ℕ → Option OpenHandle → Option OpenHandle → Type 0
IsNewAnswer number items tag old new =
    ((number ≡ DONE) × (old ≡ None) × ((held : OpenHandle) × (new ≡ Some held) × OpensNew items tag held))
    ⊎ (((number ≡ NO_MEMORY) × StaysEmpty old new)
    ⊎ (((number ≡ NO_PLACES) × (items ≡ 0) × StaysEmpty old new)
    ⊎ ((number ≡ HAS_POOL) × IsInUse old new)))

-- what the making of a further handle answers; the handle that it is made from stays as it was
abbrev pub IsShareAnswer : ℕ → Option OpenHandle → Option OpenHandle → Option OpenHandle → Type 0
IsShareAnswer number handle old new =
    ((number ≡ DONE) × (old ≡ None) × ((held : OpenHandle) × (other : OpenHandle) × (handle ≡ Some held) × (new ≡ Some other)
    × Shares held other))
    ⊎ (((number ≡ NO_MEMORY) × StaysEmpty old new)
    ⊎ (((number ≡ NO_POOL) × HasNoPool handle × StaysEmpty old new)
    ⊎ ((number ≡ HAS_POOL) × IsInUse old new)))

-- how many places a handle's pool has, and 0 where it has none
abbrev pub state_items : Option HandleState → ℕ
state_items None = 0
state_items (Some state) = (fixed_view (state_pool state)).items

abbrev pub handle_items : Option OpenHandle → ℕ
handle_items None = 0
handle_items (Some held) = state_items held.state

-- a handle that held no place keeps the note that it had; a place that was held was returned, and
-- the closed handle keeps the note of that return
abbrev pub LeavesNone : Option HandleState → Option FinalNote → Type 0
LeavesNone None last = ⊤
LeavesNone (Some (Empty idle)) last = last ≡ Some (final_note_of idle.note)
LeavesNone (Some (Full out)) last =
    (note : PageNote ⊤) × (last ≡ Some (final_note_of note)) × IsGivenBack (λ old new. new ≡ old) out.item note

-- what the end of a handle answers
abbrev pub IsDropAnswer : ℕ → Option OpenHandle → Option OpenHandle → Option FinalNote → Type 0
IsDropAnswer number old new last =
    ((number ≡ DONE) × (new ≡ None) × ((held : OpenHandle) × (old ≡ Some held) × LeavesNone held.state last))
    ⊎ ((number ≡ NO_POOL) × (old ≡ None) × (new ≡ None))
