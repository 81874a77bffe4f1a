-- What the exported calls on places by themselves answer, told by what a place shows before and
-- after, and by the pool of the handle.
use Rattle.std.specs.Prelude.{◌≡◌, ◌≢◌, ℕ, ◌*◌, ◌≤◌, ◌⊎◌, ⊤, Option, Some, IfSome, ◌+◌}
use Rattle.fixed_pools.specs.FixedPool.{IsFullNote, returns_since, fixed_view, IsWithin}
use Rattle.pool_parts.specs.Item.{IsPulled, new_user}
use Rattle.pool_parts.specs.Page.{held_item, view_of, IsGivenBack}
use Rattle.pool_parts.specs.declared.page.holding.Holding.{Holding}
use Rattle.pool_parts.specs.declared.page.note.PageNote.{PageNote}
use Rattle.fixed_pool_c.specs.Answers.{HasNoPool}
use Rattle.fixed_pool_c.specs.Refusals.{IsEmpty, IsRefusal}
use Rattle.fixed_pool_c.specs.Shows.{PlacePool, state_pool, final_note_of}
use Rattle.fixed_pool_c.specs.declared.answer.TheConstants.{DONE, ALL_IN_USE, HOLDS_ONE, NO_POOL}
use Rattle.fixed_pool_c.specs.declared.open_handle.HandleState.{HandleState}
use Rattle.fixed_pool_c.specs.declared.open_handle.OpenHandle.{OpenHandle}
use Rattle.fixed_pool_c.specs.declared.place.Place.{Place}

-- the place is empty, and keeps this note of its last operation
abbrev pub IsLeftWith : PageNote ⊤ → Place → Type 0
IsLeftWith note place = IsEmpty place × (place.permit.final_note ≡ Some (final_note_of note))

-- the handle has a pool, of which this holds
abbrev pub HasPool : Option OpenHandle → (PlacePool → Type 0) → Type 0
HasPool handle holds = (held : OpenHandle) × (state : HandleState) × (handle ≡ Some held) × (held.state ≡ Some state)
    × holds (state_pool state)

-- a place that bears the tag of the handle's pool, and one of its numbers, is owed to that pool: it
-- has the permit for that place there
abbrev pub IsOwed : Place → Option OpenHandle → Type 0
IsOwed place handle = IfSome handle (λ held. IfSome held.state (λ state.
    place.tag ≡ held.tag → place.after ≢ 0 → place.after ≤ (fixed_view (state_pool state)).items
    → (holding : Holding ⊤) × (place.permit.held ≡ Some holding)
    × (holding.seat.table_id ≡ (fixed_view (state_pool state)).identity)))

-- this is the tag of the handle's pool
abbrev pub HasTag : Option OpenHandle → ℕ → Type 0
HasTag handle tag = (held : OpenHandle) × (handle ≡ Some held) × (held.tag ≡ tag)

-- the place holds one: the last operation of a legal sequential history of the whole pool is this
-- pull of this number
pub record PullsPlace (new : Place) (pool : PlacePool) : Type 0 where
  pub holding : Holding ⊤
  pub holds : new.permit.held ≡ Some holding
  pub pulled : IsPulled (fixed_view pool).identity (new_user (fixed_view pool).opening (view_of holding.seat).user)
      (held_item holding tt)
  pub number : new.after ≡ (held_item holding tt).id + 1
  -- the pull's user made so many loads and tries at most in the first pass, and in a further one
  -- for each return meanwhile
  pub steps : IsWithin ((fixed_view pool).pages * (returns_since (view_of holding.seat) + 1)) 0 0 (view_of holding.seat)

-- the place is empty, and its note shows that at one moment of the call all places were out (or 2^32
-- returns and more came within it), and that the call made so many loads and tries at most
pub record FindsNoPlace (new : Place) (pool : PlacePool) : Type 0 where
  pub note : PageNote ⊤
  pub left : IsLeftWith note new
  pub full : IsFullNote (fixed_view pool).identity (new_user (fixed_view pool).opening (view_of note.seat).user) note

-- the place held one, which was returned to the pool; the place is empty, and its note's history
-- ends with the return
pub record ReturnsPlace (old new : Place) (pool : PlacePool) : Type 0 where
  pub holding : Holding ⊤
  pub held_one : old.permit.held ≡ Some holding
  pub of_pool : holding.seat.table_id ≡ (fixed_view pool).identity
  pub note : PageNote ⊤
  pub left : IsLeftWith note new
  pub given_back : IsGivenBack (λ old new. new ≡ old) (held_item holding tt) note

-- what a pull of a place by itself answers, by its number
abbrev pub IsPlacePullAnswer : ℕ → Option OpenHandle → Place → Place → Type 0
IsPlacePullAnswer number handle old new =
    ((number ≡ DONE) × IsEmpty old × HasTag handle new.tag × HasPool handle (PullsPlace new))
    ⊎ (((number ≡ ALL_IN_USE) × IsEmpty old × HasPool handle (FindsNoPlace new))
    ⊎ (((number ≡ HOLDS_ONE) × (new ≡ old) × (old.after ≢ 0))
    ⊎ ((number ≡ NO_POOL) × (new ≡ old) × HasNoPool handle)))

-- what a return of a place by itself answers, by its number
abbrev pub IsPlaceReturnAnswer : ℕ → Option OpenHandle → Place → Place → Type 0
IsPlaceReturnAnswer number handle old new =
    ((number ≡ DONE) × HasPool handle (ReturnsPlace old new))
    ⊎ (((number ≡ NO_POOL) × (new ≡ old) × HasNoPool handle)
    ⊎ ((new ≡ old) × ((held : OpenHandle) × (state : HandleState) × (handle ≡ Some held) × (held.state ≡ Some state)
    × IsRefusal number held.tag (fixed_view (state_pool state)).items old)))
