-- Prefixes of one history.
use Rattle.std.proofs.Common.{◌≡◌, ◌⊎◌, List, [], ◌∷◌, ◌++◌, sym, ◌∙◌, inl, inr}
use Rattle.history_lock.specs.History.{IsPrefixOf}

module _ {E : Type 0} where
  compared : (a b one two : List E) → one ++ a ≡ two ++ b → IsPrefixOf a b ⊎ IsPrefixOf b a
  compared a b [] two is = inr (two, is)
  compared a b (x ∷ one) [] is = inl (x ∷ one, sym is)
  compared a b (x ∷ one) (y ∷ two) is =
      let rest : one ++ a ≡ two ++ b = cc (is) in compared a b one two rest

  -- of two prefixes of one history, one is a prefix of the other
  pub one_is_prefix : (a b history : List E) → IsPrefixOf a history → IsPrefixOf b history
      → IsPrefixOf a b ⊎ IsPrefixOf b a
  one_is_prefix a b history first second = compared a b first.0 second.0 (sym first.1 ∙ second.1)
