-- What a place's bytes tell of its number.
use Rattle.std.specs.Prelude.{◌≡◌, ℕ, ◌<◌, ◌+◌, ⊤, Option, IfSome}
use Rattle.pool_parts.specs.declared.page.holding.Holding.{Holding}

-- a place that has a permit bears one more than the number of its item, which is of the pool
abbrev pub BearsNumber : Option (Holding ⊤) → ℕ → Type 0
BearsNumber held after = IfSome held (λ holding.
    (after ≡ holding.number + 1) × (holding.number < holding.seat.table_id.slots))
