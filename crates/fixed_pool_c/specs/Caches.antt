-- What the exported calls on caches answer, told by what a cache and a place show before and after.
use Rattle.std.specs.Prelude.{◌≡◌, ◌≢◌, ℕ, ◌<◌, ◌≤◌, ◌+◌, ◌⊎◌, ◌==◌, ◌&&◌, ⊤, Bool, false, List, [], ◌∷◌, ◌++◌, Option, Some, None, All, vec_len, vec_capacity}
use Rattle.std.specs.List.{list_any}
use Rattle.std.specs.Arc.{arc_value}
use Rattle.fixed_pools.specs.FixedPool.{fixed_view}
use Rattle.pool_parts.specs.Ledger.{IsPrefixOf}
use Rattle.pool_parts.specs.Page.{held_item, view_of, IsGivenBack}
use Rattle.pool_parts.specs.declared.page.holding.Holding.{Holding}
use Rattle.pool_parts.specs.declared.page.note.PageNote.{PageNote}
use Rattle.fixed_pool_c.specs.Answers.{HasNoPool}
use Rattle.fixed_pool_c.specs.Kept.{IsOfPool}
use Rattle.fixed_pool_c.specs.Places.{HasPool, IsLeftWith, PullsPlace, FindsNoPlace, ReturnsPlace}
use Rattle.fixed_pool_c.specs.Refusals.{IsEmpty, IsRefusal}
use Rattle.fixed_pool_c.specs.Shows.{PlacePool, final_note_of}
use Rattle.fixed_pool_c.specs.declared.answer.TheConstants.{DONE, ALL_IN_USE, HOLDS_ONE, NO_POOL, HAS_POOL, NO_MEMORY}
use Rattle.fixed_pool_c.specs.declared.open_cache.OpenCache.{OpenCache}
use Rattle.fixed_pool_c.specs.declared.open_handle.FinalNote.{FinalNote}
use Rattle.fixed_pool_c.specs.declared.open_handle.OpenHandle.{OpenHandle}
use Rattle.fixed_pool_c.specs.declared.place.Place.{Place}

-- the pool of a cache
abbrev pub cache_pool : OpenCache → PlacePool
cache_pool cache = arc_value cache.pool

-- the places that a cache keeps, of which the one that came back last stands last
abbrev pub kept : OpenCache → List (Holding ⊤)
kept cache = cache.kept.items

-- how many places a cache may keep
abbrev pub room : OpenCache → ℕ
room cache = vec_capacity cache.kept

-- whether a cache keeps the place of this number
abbrev pub keeps : OpenCache → ℕ → Bool
keeps cache number = list_any (λ holding. holding.number == number) (kept cache)

-- the same of a cache that may be empty, whose pool has this tag
abbrev pub cache_keeps : Option OpenCache → ℕ → ℕ → Bool
cache_keeps None number tag = false
cache_keeps (Some cache) number tag = (cache.tag == tag) && keeps cache number

-- the cache has the pool, the tag and the room that it had
pub record IsSameCache (old new : OpenCache) : Type 0 where
  pub same_pool : cache_pool new ≡ cache_pool old
  pub same_tag : new.tag ≡ old.tag
  pub same_room : room new ≡ room old

-- the place that came back last was taken out of the cache, with its permit, without a step on its
-- pool
pub record TakesLast (old new : OpenCache) (place : Place) : Type 0 where
  pub holding : Holding ⊤
  pub last : kept old ≡ kept new ++ holding ∷ []
  pub holds : place.permit.held ≡ Some holding
  pub of_pool : holding.seat.table_id ≡ (fixed_view (cache_pool old)).identity
  pub number : place.after ≡ holding.number + 1

-- the cache, which had room, keeps what the place held, with its permit, without a step on its pool;
-- the place is empty
pub record KeepsPlace (old new : OpenCache) (before after : Place) : Type 0 where
  pub has_room : vec_len old.kept < room old
  pub holding : Holding ⊤
  pub held_one : before.permit.held ≡ Some holding
  pub last : kept new ≡ kept old ++ holding ∷ []
  pub left : IsEmpty after

-- the cache had no room for what the place held, and keeps what it kept; the place is empty
pub record HasNoRoom (old new : OpenCache) (before after : Place) (holding : Holding ⊤) : Type 0 where
  pub has_none : room old ≤ vec_len old.kept
  pub keeps_same : kept new ≡ kept old
  pub held_one : before.permit.held ≡ Some holding
  pub of_pool : IsOfPool (fixed_view (cache_pool old)).identity holding
  pub left : IsEmpty after

-- the cache, which had no room, keeps what it kept, and the place was returned to its pool
pub record ReturnsBeyond (old new : OpenCache) (before after : Place) : Type 0 where
  pub has_none : room old ≤ vec_len old.kept
  pub keeps_same : kept new ≡ kept old
  pub returned : ReturnsPlace before after (cache_pool old)

-- what a pull of a place that is kept answers
abbrev pub PullsKept : ℕ → OpenCache → OpenCache → Place → Place → Type 0
PullsKept number old new before after =
    ((number ≡ DONE) × IsEmpty before × (after.tag ≡ old.tag) × TakesLast old new after)
    ⊎ ((number ≡ HOLDS_ONE) × (after ≡ before) × (before.after ≢ 0) × (kept new ≡ kept old))

-- the cache keeps none, and an empty place stays so
abbrev pub KeepsNone : OpenCache → OpenCache → Place → Place → Type 0
KeepsNone old new before after = IsEmpty before × (after ≡ before) × (kept old ≡ []) × (kept new ≡ [])

-- what a pull from this pool, of this tag, answers
abbrev pub PullsFromPool : ℕ → ℕ → PlacePool → Place → Type 0
PullsFromPool number tag pool after =
    ((number ≡ DONE) × (after.tag ≡ tag) × PullsPlace after pool) ⊎ ((number ≡ ALL_IN_USE) × FindsNoPlace after pool)

-- a pull from the cache's pool, which leaves what the cache keeps
pub record PullsFurther (number : ℕ) (old new : OpenCache) (after : Place) : Type 0 where
  pub same : IsSameCache old new
  pub keeps_same : kept new ≡ kept old
  pub answer : PullsFromPool number old.tag (cache_pool old) after

-- what a pull by an open cache answers: it takes the place that came back last, or one of the pool if
-- it keeps none
abbrev pub PullsBy : ℕ → OpenCache → OpenCache → Place → Place → Type 0
PullsBy number old new before after =
    PullsKept number old new before after
    ⊎ (IsEmpty before × (kept old ≡ []) × (kept new ≡ []) × PullsFromPool number old.tag (cache_pool old) after)

-- what a return answers for which no place goes back to the pool
abbrev pub KeepsOrRefuses : ℕ → OpenCache → OpenCache → Place → Place → Type 0
KeepsOrRefuses number old new before after =
    ((number ≡ DONE) × KeepsPlace old new before after)
    ⊎ ((after ≡ before) × (kept new ≡ kept old)
    × IsRefusal number old.tag (fixed_view (cache_pool old)).items before)

-- what a return to an open cache answers: it keeps the place while it has room, and returns it to its
-- pool if not
abbrev pub ReturnsTo : ℕ → OpenCache → OpenCache → Place → Place → Type 0
ReturnsTo number old new before after =
    KeepsOrRefuses number old new before after ⊎ ((number ≡ DONE) × ReturnsBeyond old new before after)

-- the place keeps the note of this holder's return, which ends the history that the note knows
abbrev pub KeepsReturn : Holding ⊤ → Place → Type 0
KeepsReturn holding place =
    (note : PageNote ⊤) × IsLeftWith note place × IsGivenBack (λ old new. new ≡ old) (held_item holding tt) note

-- a place that bears the tag of the cache's pool, and one of its numbers, is owed to that pool: it has
-- the permit for that place there
abbrev pub IsOwedTo : Place → OpenCache → Type 0
IsOwedTo place held =
    place.tag ≡ held.tag → place.after ≢ 0 → place.after ≤ (fixed_view (cache_pool held)).items
    → (holding : Holding ⊤) × (place.permit.held ≡ Some holding)
    × (holding.seat.table_id ≡ (fixed_view (cache_pool held)).identity)

-- what was kept came back to its pool: the history that this note knows goes on from its return
pub record IsReturnedIn (note : PageNote ⊤) (holding : Holding ⊤) : Type 0 where
  pub return : PageNote ⊤
  pub given_back : IsGivenBack (λ old new. new ≡ old) (held_item holding tt) return
  pub known : IsPrefixOf (view_of return.seat).operations (view_of note.seat).operations

-- both are open, of one pool, and this holds of what they have
abbrev pub Open : Option OpenCache → Option OpenCache → (OpenCache → OpenCache → Type 0) → Type 0
Open old new holds = (held : OpenCache) × (later : OpenCache) × (old ≡ Some held) × (new ≡ Some later)
    × IsSameCache held later × holds held later

-- the cache is empty, and stays so
abbrev pub IsClosed : ℕ → Option OpenCache → Option OpenCache → Type 0
IsClosed number old new = (number ≡ NO_POOL) × (old ≡ None) × (new ≡ None)

-- what a pull by a cache answers
abbrev pub IsCachePullAnswer : ℕ → Option OpenCache → Option OpenCache → Place → Place → Type 0
IsCachePullAnswer number old new before after =
    Open old new (λ held later. PullsBy number held later before after)
    ⊎ (IsClosed number old new × (after ≡ before))

-- what a return to a cache answers
abbrev pub IsCacheReturnAnswer : ℕ → Option OpenCache → Option OpenCache → Place → Place → Type 0
IsCacheReturnAnswer number old new before after =
    Open old new (λ held later. ReturnsTo number held later before after)
    ⊎ (IsClosed number old new × (after ≡ before))

-- a new cache of this handle's pool keeps nothing, and has this room
pub record OpensCache (handle : OpenHandle) (size : ℕ) (new : OpenCache) : Type 0 where
  pub has_pool : HasPool (Some handle) (λ pool. cache_pool new ≡ pool)
  pub same_tag : new.tag ≡ handle.tag
  pub none : kept new ≡ []
  pub has_room : room new ≡ size

-- what the making of a cache answers
abbrev pub IsCacheNewAnswer : ℕ → ℕ → Option OpenHandle → Option OpenCache → Option OpenCache → Type 0
IsCacheNewAnswer number size handle old new =
    ((number ≡ DONE) × (old ≡ None) × ((held : OpenHandle) × (cache : OpenCache) × (handle ≡ Some held)
    × (new ≡ Some cache) × OpensCache held size cache))
    ⊎ (((number ≡ NO_MEMORY) × (old ≡ None) × (new ≡ None))
    ⊎ (((number ≡ NO_POOL) × HasNoPool handle × (old ≡ None) × (new ≡ None))
    ⊎ ((number ≡ HAS_POOL) × ((held : OpenCache) × (old ≡ Some held) × (new ≡ Some held)))))

-- what the emptying of a cache answers: it keeps none, and its note knows of each return
abbrev pub IsCacheFlushAnswer : ℕ → Option OpenCache → Option OpenCache → Type 0
IsCacheFlushAnswer number old new =
    ((number ≡ DONE) × Open old new (λ held later. (kept later ≡ []) × All (IsReturnedIn later.note) (kept held)))
    ⊎ IsClosed number old new

-- what the end of a cache answers: the note that is left knows of each return
abbrev pub IsCacheDropAnswer : ℕ → Option OpenCache → Option OpenCache → Option FinalNote → Type 0
IsCacheDropAnswer number old new last =
    ((number ≡ DONE) × (new ≡ None) × ((held : OpenCache) × (note : PageNote ⊤) × (old ≡ Some held)
    × (last ≡ Some (final_note_of note)) × All (IsReturnedIn note) (kept held)))
    ⊎ IsClosed number old new
