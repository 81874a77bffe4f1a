-- Why a place isn't returned to a pool.
use Rattle.std.specs.Prelude.{◌≡◌, ◌≢◌, ℕ, ◌<◌, ◌⊎◌, None}
use Rattle.fixed_pool_c.specs.declared.answer.TheConstants.{HOLDS_NONE, OTHER_POOL, NO_SUCH_PLACE}
use Rattle.fixed_pool_c.specs.declared.place.Place.{Place}

-- the place is empty, by its bytes and by its permit
abbrev pub IsEmpty : Place → Type 0
IsEmpty place = (place.after ≡ 0) × (place.permit.held ≡ None)

-- the answer of a pool of this tag and so many items that doesn't take the place: the place is empty,
-- or it bears another tag, or its number is none of the items'
abbrev pub IsRefusal : ℕ → ℕ → ℕ → Place → Type 0
IsRefusal answer tag items place =
    ((answer ≡ HOLDS_NONE) × IsEmpty place)
    ⊎ (((answer ≡ OTHER_POOL) × (place.tag ≢ tag))
    ⊎ ((answer ≡ NO_SUCH_PLACE) × (items < place.after)))
