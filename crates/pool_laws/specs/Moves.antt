-- The sequential pool that grows, as a machine: what each act does to the pool.
use Rattle.std.specs.Prelude.{◌≡◌, None, Some, List, [], ◌∷◌, length, ⊤}
use Rattle.pool_parts.specs.declared.page.history.Operation.{Operation}
use Rattle.pool_parts.specs.declared.page.history.Operation.TheVariants.{Pull, Return}
use Rattle.pool_parts.specs.declared.page.word.TheConstants.{PAGE_ITEMS}
use Rattle.pool_parts.specs.Ledger.{History, operations_of, held_id}
use Rattle.pool_world.specs.Pool.{Pool, Free, Out, IsSame, opening, with_place, after_growth}
use Rattle.pool_world.specs.Run.{Act, Operates, Grows, ledger_of}

module _ {T : Type 0} where
  -- a pull takes a number that is free with this value, and the number is out afterwards; a return
  -- leaves its value at a number that is out; a growth brings 32 values; and no other act changes
  -- the pool
  abbrev pub IsMove : Pool T → Act T → Pool T → Type 0
  IsMove old (Operates (Pull user n value)) new = (old.at n ≡ Free value) × IsSame new (with_place old n Out)
  IsMove old (Operates (Return user n kept)) new = (old.at n ≡ Out) × IsSame new (with_place old n (Free kept))
  IsMove old (Grows agent values) new = (length values ≡ PAGE_ITEMS) × IsSame new (after_growth old values)
  IsMove old _ new = IsSame new old

  -- the acts lead to this pool, from a pool of one page, all of whose numbers are free
  abbrev pub LeadTo : List T → List (Act T) → Pool T → Type 0
  LeadTo first [] pool = IsSame pool (opening first)
  LeadTo first (act ∷ acts) pool = (before : Pool T) × LeadTo first acts before × IsMove before act pool

  -- who pulls holds nothing, and who returns a number holds it
  abbrev pub IsByHolder : History T → Operation T → Type 0
  IsByHolder before (Pull user n value) = held_id (operations_of user before) ≡ None
  IsByHolder before (Return user n kept) = held_id (operations_of user before) ≡ Some n

  -- so it is at each operation
  abbrev pub AreByHolders : List (Act T) → Type 0
  AreByHolders [] = ⊤
  AreByHolders (Operates operation ∷ acts) = IsByHolder (ledger_of acts) operation × AreByHolders acts
  AreByHolders (_ ∷ acts) = AreByHolders acts
