-- The lines of some bytes.
use Rattle.std.specs.Prelude.{◌≡◌, ◌≢◌, ℕ, List, [], ◌∷◌, ◌++◌, All, flat_map}

-- a line and its line feed
abbrev pub ended : List ℕ → List ℕ
ended line = line ++ 10 ∷ []

-- no byte is a line feed
abbrev pub HasNoLineFeed : List ℕ → Type 0
HasNoLineFeed bytes = All (λ byte. byte ≢ 10) bytes

-- the bytes are these lines, each ended by a line feed, and then an unterminated final line, which
-- may be empty
pub record IsLines (bytes : List ℕ) (lines : List (List ℕ)) (rest : List ℕ) : Type 0 where
  pub whole : bytes ≡ flat_map ended lines ++ rest
  pub each : All HasNoLineFeed lines
  pub open_end : HasNoLineFeed rest

-- the unterminated final line is a line where it has any bytes
abbrev pub with_last_line : List (List ℕ) → List ℕ → List (List ℕ)
with_last_line lines [] = lines
with_last_line lines (byte ∷ rest) = lines ++ (byte ∷ rest) ∷ []
