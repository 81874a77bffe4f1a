-- The values in a list of places.
use Rattle.std.proofs.Common.{◌≡◌, Some, None, Option, List, [], ◌∷◌, ◌++◌, map, refl, ap, sym, ◌∙◌}
use Rattle.std.proofs.lemmas.List.{map-append}
use Rattle.pool_world.specs.World.Inside.Prepared.{values_of}

module _ {T : Type 0} where
  -- one place more with its value
  pub values_of-push : (places : List (Option T)) (value : T)
      → values_of (places ++ Some value ∷ []) ≡ values_of places ++ value ∷ []
  values_of-push [] value = refl
  values_of-push (None ∷ places) value = values_of-push places value
  values_of-push (Some first ∷ places) value = ap (λ rest. first ∷ rest) (values_of-push places value)

  -- a list in which each place has its value stays one
  pub full-push : (places : List (Option T)) (value : T) → places ≡ map Some (values_of places)
      → places ++ Some value ∷ [] ≡ map Some (values_of (places ++ Some value ∷ []))
  full-push places value full =
      ap (λ all. all ++ Some value ∷ []) full
      ∙ sym (map-append Some (values_of places) (value ∷ []))
      ∙ ap (map Some) (sym (values_of-push places value))
