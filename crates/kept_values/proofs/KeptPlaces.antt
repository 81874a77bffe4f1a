-- A stack's chain without its first place.
use Rattle.std.proofs.Common.{◌≡◌, Option, None, Some, Box, box_value, Global, All, subst}
use Rattle.std.proofs.lemmas.List.Elements.{All-nil, All-tail}
use Rattle.kept_values.specs.declared.stack.node.Node.{Node, Node', None', Some', out-Node}
use Rattle.kept_values.specs.Kept.{values_from, IsFull, kept_values, IsFullChain}

module _ {T : Type 0} (P : T → Type 0) where
  behind : (place : Node T) → IsFull place × All P (values_from place)
      → IsFullChain (out-Node T place).next × All P (kept_values (out-Node T place).next)
  unfolding out-Node denote.Hole.Carrier.out
  behind (Node' None next) kept = absurd kept.0
  behind (Node' (Some value) None') kept = (tt, All-nil P)
  behind (Node' (Some value) (Some' place next)) kept = (kept.0, All-tail P value (values_from next) kept.1)

  -- behind the first place of a full chain there is a full chain, and what holds of all its values holds of the rest
  pub rest_of_full_chain : (chain : Option (Box (Node T) Global)) (first : Box (Node T) Global) → chain ≡ Some first
      → IsFullChain chain × All P (kept_values chain)
      → IsFullChain (out-Node T (box_value first)).next × All P (kept_values (out-Node T (box_value first)).next)
  rest_of_full_chain chain first is kept =
      behind (box_value first) (subst (λ c. IsFullChain c × All P (kept_values c)) is kept)
