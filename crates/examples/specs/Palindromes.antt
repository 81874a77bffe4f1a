-- Texts that read the same from their end.
use Rattle.std.specs.Prelude.{◌≡◌, ◌<◌, ℕ, List, Bool, Option, IsTrue, IsSome, IfSome, ◌↔◌, length, reverse}
use Rattle.std.specs.Global.{Vec}

-- the text reads the same from its end
abbrev pub IsPalindrome : List ℕ → Type 0
IsPalindrome text = reverse text ≡ text

-- the answer to a text, where there is one; a text of one byte or of none always has one
abbrev pub IsAnswerTo : Vec ℕ → Option Bool → Type 0
IsAnswerTo text answer = IfSome answer (λ answer. IsTrue answer ↔ IsPalindrome text.items) × (length text.items < 2
    → IsSome answer)
