-- For the proofs: the places of a stack's chain: what they keep, first place first.
use Rattle.std.specs.Prelude.{Option, None, Some, List, [], ◌∷◌, Box, box_value}
use Rattle.std.specs.declared.alloc.Global.{Global}
use Rattle.kept_values.specs.declared.stack.node.Node.{Node, Node', Held-Node-next, None', Some'}

-- the values of a place and of those after it; an empty place has none
abbrev mutual
  pub values_from : {T : Type 0} → Node T → List T
  values_from (Node' None next) = values_after next
  values_from (Node' (Some value) next) = value ∷ values_after next

  pub values_after : {T : Type 0} → Held-Node-next T → List T
  values_after None' = []
  values_after (Some' place rest) = values_from rest

-- a place and each behind it has a value
abbrev mutual
  pub IsFull : {T : Type 0} → Node T → Type 0
  IsFull (Node' None next) = ⊥
  IsFull (Node' (Some value) next) = IsFullBehind next

  pub IsFullBehind : {T : Type 0} → Held-Node-next T → Type 0
  IsFullBehind None' = Unit {0}
  IsFullBehind (Some' place rest) = IsFull rest

-- a place has no value, and nothing behind it
abbrev pub IsVacant : {T : Type 0} → Node T → Type 0
IsVacant (Node' None None') = Unit {0}
IsVacant _ = ⊥

-- the values of a chain
abbrev pub kept_values : {T : Type 0} → Option (Box (Node T) Global) → List T
kept_values None = []
kept_values (Some place) = values_from (box_value place)

-- each place of a chain has a value
abbrev pub IsFullChain : {T : Type 0} → Option (Box (Node T) Global) → Type 0
IsFullChain None = Unit {0}
IsFullChain (Some place) = IsFull (box_value place)
