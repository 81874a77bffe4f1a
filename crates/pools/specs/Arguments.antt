-- What the arguments of the program say.
use Rattle.std.specs.Prelude.{◌≡◌, ◌≤◌, ℕ, List, [], ◌∷◌, codes}
use Rattle.object_pool_cores.specs.CommandText.{IsNumber}
use Rattle.object_pool_cores.specs.declared.engine.kind.Kind.{Kind}
use Rattle.object_pool_cores.specs.declared.engine.kind.Kind.TheVariants as kind
use Rattle.object_pool_cores.specs.declared.engine.kind.Reset.{Reset}
use Rattle.object_pool_cores.specs.declared.engine.kind.Reset.TheVariants.{Zero, Keep}

-- the word for what a return leaves
abbrev pub reset_word : Reset → List ℕ
reset_word Zero = codes "zero"
reset_word Keep = codes "keep"

-- the word is a number of pages, 1 or more
abbrev pub IsPages : List ℕ → ℕ → Type 0
IsPages word pages = IsNumber word pages × (1 ≤ pages)

-- the words ask for a pool of this kind that is reset so, and say nothing else
abbrev pub AreArguments : List (List ℕ) → Kind → Reset → Type 0
AreArguments words kind.Linear reset = words ≡ codes "linear" ∷ reset_word reset ∷ []
AreArguments words (kind.Bounded pages) reset =
    (word : List ℕ) × IsPages word pages × (words ≡ codes "linear" ∷ reset_word reset ∷ word ∷ [])
AreArguments words kind.Stack reset = words ≡ codes "stack" ∷ reset_word reset ∷ []
AreArguments words kind.None reset = words ≡ codes "none" ∷ reset_word reset ∷ []

-- the words ask for no pool
abbrev pub AreOther : List (List ℕ) → Type 0
AreOther words = (kind : Kind) (reset : Reset) → AreArguments words kind reset → ⊥
