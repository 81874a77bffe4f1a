-- What is added to a counter.
use Rattle.std.specs.Prelude.{◌≡◌, ℕ, List, ◌∷◌, ◌++◌, Bool, true, false, ⊤}

-- if so, the last addition is of this amount
abbrev pub WasAdded : Bool → ℕ → List ℕ → Type 0
WasAdded true n history = (before : List ℕ) × (history ≡ n ∷ before)
WasAdded false n history = ⊤

-- some addition is of this amount
abbrev pub IsAmong : ℕ → List ℕ → Type 0
IsAmong n history = (later before : List ℕ) × (history ≡ later ++ n ∷ before)
