-- What is known of a lock's operations, of which the last stands first.
use Rattle.std.specs.Prelude.{◌≡◌, List, ◌++◌}
use Rattle.atomic_table.specs.Seated.{TableId}

module _ {E : Type 0} where
  -- one history is a prefix of another, which goes on from it
  abbrev pub IsPrefixOf : List E → List E → Type 0
  IsPrefixOf prefix history = (later : List E) × (history ≡ later ++ prefix)

-- what somebody knows of a lock: which it is, and its operations up to some moment
pub record Known (E : Type 0) : Type 0 where
  pub table : TableId
  pub history : List E
