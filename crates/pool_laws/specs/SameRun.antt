-- A legal history of one pool, as a run of the main theorem.
use Rattle.std.specs.Prelude.{◌≡◌, ℕ, Option, List, [], ◌∷◌, map, ⊤}
use Rattle.pool_parts.specs.declared.page.history.Operation.{Operation}
use Rattle.pool_parts.specs.declared.page.history.Operation.TheVariants.{Pull, Return}
use Rattle.pool_world.specs.Run.{Act, Operates, ledger_of, made, Run}

module _ {T : Type 0} where
  -- an operation, whoever does it
  abbrev pub unnamed : Operation T → Operation T
  unnamed (Pull user n value) = Pull 0 n value
  unnamed (Return user n value) = Return 0 n value

  -- each value that is returned is one that reset may leave of some value
  abbrev pub AreLeft : (T → T → Type 0) → List (Act T) → Type 0
  AreLeft Leaves [] = ⊤
  AreLeft Leaves (Operates (Return user n kept) ∷ acts) = ((old : T) × Leaves old kept) × AreLeft Leaves acts
  AreLeft Leaves (_ ∷ acts) = AreLeft Leaves acts

  -- there is a run with the same values and the same operations, in the same order; an agent pulls
  -- once, so it may be another who does them
  pub record HasRun (Leaves : T → T → Type 0) (limit : Option ℕ) (first : List T) (acts : List (Act T)) : Type 0 where
    pub run_acts : List (Act T)
    pub run : Run Leaves limit first run_acts
    pub same_values : made first run_acts ≡ made first acts
    pub same_operations : map unnamed (ledger_of run_acts) ≡ map unnamed (ledger_of acts)
