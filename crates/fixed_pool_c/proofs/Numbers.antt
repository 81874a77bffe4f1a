-- What a place's bytes tell of its permit.
use Rattle.std.proofs.Common.{◌≡◌, ◌≢◌, ℕ, ◌+◌, ◌-◌, ◌≤◌, Option, Some, None, refl, subst, arith}
use Rattle.std.specs.Prelude.{⊤, IfSome}
use denote.Builtin.{unit}
use Rattle.fixed_pools.specs.FixedPool.{fixed_view}
use Rattle.pool_parts.specs.contracts.page.holding.Holding as holding
use Rattle.pool_parts.specs.declared.page.holding.Holding.{Holding}
use Rattle.fixed_pool_c.specs.Number.{BearsNumber}
use Rattle.fixed_pool_c.specs.Places.{IsOwed}
use Rattle.fixed_pool_c.specs.Shows.{state_pool}
use Rattle.fixed_pool_c.specs.declared.open_handle.HandleState.{HandleState}
use Rattle.fixed_pool_c.specs.declared.open_handle.OpenHandle.{OpenHandle}
use Rattle.fixed_pool_c.specs.declared.place.Place.{Place}

-- the bytes of a place are one more than its permit's number
pub permit_number : (held : Option (Holding ⊤)) (after : ℕ) (holding : Holding ⊤) → BearsNumber held after
    → held ≡ Some holding → after ≡ holding.number + 1
permit_number held after holding told is = (subst (λ had. BearsNumber had after) is told).0

-- and its permit's number is one less than they are
pub less_one : (after number : ℕ) → after ≡ number + 1 → after - 1 ≡ number
less_one after number is = omega (arith, is)

-- a holder is told by its seat and its number
pub one_holding : (one other : Holding ⊤) → one.seat ≡ other.seat → one.number ≡ other.number → one ≡ other
one_holding one other seats numbers = (holding.the_type unit).to_one one other (λ i. (seats i, (numbers i, tt)))

-- a place whose bytes are those of an empty one has no permit
pub no_permit : (held : Option (Holding ⊤)) (after : ℕ) → BearsNumber held after → after ≡ 0 → held ≡ None
no_permit None after told none = refl
no_permit (Some holding) after told none = absurd (omega (arith, told.0, none))

-- a place that has a permit isn't empty
pub not_empty : (after number : ℕ) → after ≡ number + 1 → after ≢ 0
not_empty after number is none = omega (arith, is, none)

-- what the caller owes, at the state that is there
pub owed_at : (place : Place) (held : OpenHandle) (state : HandleState) → IsOwed place (Some held) → held.state ≡ Some state
    → place.tag ≡ held.tag → place.after ≢ 0 → place.after ≤ (fixed_view (state_pool state)).items
    → (holding : Holding ⊤) × (place.permit.held ≡ Some holding)
    × (holding.seat.table_id ≡ (fixed_view (state_pool state)).identity)
owed_at place held state owed opened =
    subst (λ had. IfSome had (λ state. place.tag ≡ held.tag → place.after ≢ 0
    → place.after ≤ (fixed_view (state_pool state)).items
    → (holding : Holding ⊤) × (place.permit.held ≡ Some holding)
    × (holding.seat.table_id ≡ (fixed_view (state_pool state)).identity))) opened owed
