-- The values of a page before it is linked.
use Rattle.std.specs.Prelude.{◌≡◌, List, [], ◌∷◌, Option, Some, None, map, length}
use Rattle.pool_parts.specs.declared.page.word.TheConstants.{PAGE_ITEMS}

module _ {T : Type 0} where
  -- the values in a list of places, in order
  abbrev pub values_of : List (Option T) → List T
  values_of [] = []
  values_of (None ∷ places) = values_of places
  values_of (Some value ∷ places) = value ∷ values_of places

  -- each of the 32 places has its value
  pub record IsComplete (places : List (Option T)) : Type 0 where
    pub all : places ≡ map Some (values_of places)
    pub count : length (values_of places) ≡ PAGE_ITEMS
