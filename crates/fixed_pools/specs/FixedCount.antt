-- For the proofs: how a pull of a fixed pool finds that no item was free at one moment: two passes over its words
-- count as many returns.
use Rattle.std.specs.Prelude.{◌≡◌, ℕ, ◌*◌, ◌/◌, ◌%◌, ◌^◌, ◌≤◌, nat_lt, not, ◌&&◌, ◌==◌, Bool, true, [], Option, None, Some, ◌+◌}
use Rattle.atomic_table.specs.Seated.{TableId}
use Rattle.pool_parts.specs.declared.page.items.TakenValue.{TakenValue}
use Rattle.pool_parts.specs.declared.page.user_view.UserView.{UserView}
use Rattle.pool_parts.specs.Ledger.{WasOutBetween, returns_among}
use Rattle.pool_parts.specs.PageRule.{User, GoesOn, IsOutNow, MayTake, MissesAll, TakesOne}
use Rattle.atomic_table.specs.declared.shared.Seat.{Seat}

-- whether a number lies on one of these words: from one up to below another, but for one that is skipped
abbrev pub is_beside : (from to skipped : ℕ) → ℕ → Bool
is_beside from to skipped id =
    not (nat_lt (id / 32) from) && (nat_lt (id / 32) to && not (id / 32 == skipped))

module _ {T : Type 0} where
  -- the user has read on, and holds and carries what it did
  pub record ReadsOn (old new : User T) : Type 0 where
    pub holds_same : new.0.held ≡ old.0.held
    pub carries_same : new.1 ≡ old.1
    pub goes_on : GoesOn [] old.0 new.0

  -- what some words count together that a user read one after the other, and of which it took nothing: no less than
  -- all counted at the first reading, and no more than at the last; where it is what all count now, no item of them
  -- is free now
  pub record Tallies (is_read : ℕ → Bool) (sum : ℕ) (old new : UserView T) : Type 0 where
    pub total : ℕ
    pub is_total : sum ≡ total % 2 ^ 32
    pub from_first : returns_among is_read old.operations ≤ total
    pub to_last : total ≤ returns_among is_read new.operations
    pub full : total ≡ returns_among is_read new.operations → (id : ℕ) → is_read id ≡ true → IsOutNow new id

  -- the user has read some words one after the other, and observed each item of them taken
  pub record PassesOver (is_read : ℕ → Bool) (sum : ℕ) (old new : User T) : Type 0 where
    pub reads_on : ReadsOn old new
    pub each_was_out : (id : ℕ) → is_read id ≡ true
        → WasOutBetween new.0.opening old.0.operations new.0.operations id
    pub tallies : Tallies is_read sum old.0 new.0

  -- the user has read all words of a pool, this one first, and observed each item taken; the other words count so many
  -- returns
  pub record PassesAll (pool : TableId) (start sum : ℕ) (old new : User T) : Type 0 where
    pub missed : MissesAll 0 pool.slots old new
    pub counted : Tallies (is_beside 0 pool.words start) sum old.0 new.0

  -- a user of this pool may take an item of it
  pub record IsReady (pool : TableId) (seat : Seat (Option T) (UserView T)) : Type 0 where
    pub of_pool : seat.table_id ≡ pool
    pub may_take : MayTake seat.me

  -- the user has tried each item of a word that it had read, and observed it taken
  pub record MissesWord (page : ℕ) (old new : Seat (Option T) (UserView T)) : Type 0 where
    pub same_pool : new.table_id ≡ old.table_id
    pub missed : MissesAll (32 * page) (32 * page + 32) old.me new.me
    pub loads : new.me.0.loads ≡ old.me.0.loads
    pub tries : new.me.0.tries ≤ old.me.0.tries + 32

  -- the user has gone over so many words of its pool at most, of which it had read so many before
  pub record GoesOver (words read : ℕ) (old new : Seat (Option T) (UserView T)) : Type 0 where
    pub same_pool : new.table_id ≡ old.table_id
    pub loads : new.me.0.loads + read ≤ old.me.0.loads + words
    pub tries : new.me.0.tries ≤ old.me.0.tries + 32 * words

  -- the user has taken this item of this pool, whose value moved out
  abbrev pub Takes : (T → Type 0) → TableId → TakenValue T → User T → User T → Type 0
  Takes meets pool taken old new = TakesOne meets pool.slots taken.number taken.value None old new

-- the bound in passes of a user that took an item or took none, where so many returns came since
-- its first load
abbrev pub passes_of : {A : Type 0} → Option A → ℕ → ℕ
passes_of None returns = returns + 2
passes_of (Some taken) returns = returns + 1
