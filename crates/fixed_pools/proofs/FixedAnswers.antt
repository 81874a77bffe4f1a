-- What a pool answers, told by what the answer shows and no longer by its user's view.
use Rattle.pool_parts.proofs.Views.{StartsFrom, starts_from, starts_new}
use Rattle.std.proofs.Common.{◌≡◌, ◌∙◌, sym, subst, ℕ, ◌+◌, ◌*◌, ◌<◌, ◌≤◌, arith, None, List, [], Option}
use Rattle.atomic_table.specs.Seated.{TableId}
use Rattle.atomic_table.specs.declared.shared.Seat.{Seat}
use Rattle.pool_parts.specs.declared.page.user_view.UserView.{UserView}
use Rattle.pool_parts.specs.Item.{new_user}
use Rattle.pool_parts.specs.Ledger.{WasOutBetween}
use Rattle.pool_parts.specs.PageRule.{User, IsSound, Loads, MissesAll, TakesOne}
use Rattle.pool_parts.proofs.PageAnswers.{pulled, pulled_since, found_out, out_since, knows_out}
use Rattle.fixed_pools.specs.FixedCount.{GoesOver}
use Rattle.fixed_pools.specs.FixedPool.{IsBusy, PullsItem, returns_between, returns_since}
use Rattle.pool_parts.specs.declared.page.holding.PulledItem.{PulledItem}

module _ {T : Type 0} where
  -- where the user of a call stands that has read its first word, and had known this before
  pub record Begins (pool : TableId) (before : UserView T) (start : Seat (Option T) (UserView T)) : Type 0 where
    pub of_pool : start.table_id ≡ pool
    pub starts : StartsFrom before start.me.0
    pub sound : IsSound start.me.0
    pub loads : start.me.0.loads ≡ before.loads + 1
    pub tries : start.me.0.tries ≡ before.tries

  pub begins : (pool : TableId) (place word : ℕ) (old : User T) (start : Seat (Option T) (UserView T))
      → start.table_id ≡ pool → Loads place old word start.me → Begins pool old.0 start
  begins pool place word old start of_pool loaded = record {
    of_pool = of_pool;
    starts = starts_from place word old start.me loaded;
    sound = loaded.sound;
    loads = loaded.loads;
    tries = loaded.tries;
  }

  -- so it is of a new user, by the number that it has
  pub begins_new : (pool : TableId) (place word : ℕ) (opening : List (Option T)) (start : Seat (Option T) (UserView T))
      (user : ℕ) → start.table_id ≡ pool → user ≡ start.me.0.user
      → Loads place (new_user opening start.me.0.user, []) word start.me → Begins pool (new_user opening user) start
  begins_new pool place word opening start user of_pool same loaded = record {
    of_pool = of_pool;
    starts = starts_new place word opening start.me user same loaded;
    sound = loaded.sound;
    loads = loaded.loads;
    tries = loaded.tries;
  }

  -- the item that a pull took
  pub item_pulled : (meets : T → Type 0) (pool : TableId) (words passes : ℕ) (before : UserView T)
      (start : Seat (Option T) (UserView T)) (item : PulledItem T T) → Begins pool before start
      → TakesOne meets pool.slots item.holding.number item.value None start.me item.holding.seat.me
      → GoesOver words 1 start item.holding.seat → words ≤ pool.words * passes → PullsItem meets pool passes before item
  item_pulled meets pool words passes before start item begun takes steps within =
      let more = steps.loads in
      let tries = steps.tries in
      let loads_begun = begun.loads in
      let tries_begun = begun.tries in
      record {
        pulled = pulled_since pool before start.me.0 _ begun.starts begun.sound
            (pulled pool start.me.0 item.holding.seat.me.0 item.holding.seat.table_id item.holding.number item.value
            begun.sound takes.goes_on (steps.same_pool ∙ begun.of_pool) takes.in_pool);
        meets_condition = takes.meets_condition;
        steps = record { loads = omega arith; tries = omega arith };
      }

  -- so it is of one that went round as returns came since its first load
  pub item_pulled_on : (meets : T → Type 0) (pool : TableId) (before : UserView T)
      (start : Seat (Option T) (UserView T)) (item : PulledItem T T) → Begins pool before start
      → TakesOne meets pool.slots item.holding.number item.value None start.me item.holding.seat.me
      → GoesOver (pool.words * (returns_between start.me.0.operations item.holding.seat.me.0.operations + 1)) 1 start
      item.holding.seat
      → PullsItem meets pool (returns_since item.holding.seat.me.0 + 1) before item
  item_pulled_on meets pool before start item begun takes steps =
      let since = takes.goes_on.same_since ∙ begun.starts.from_now in
      item_pulled meets pool _ _ before start item begun takes
      (subst (λ from. GoesOver (pool.words * (returns_between from item.holding.seat.me.0.operations + 1)) 1 start
      item.holding.seat) (sym since) steps)
      (omega arith)

  -- what a user has seen that observed each item taken in one pass
  pub found_busy : (pool : TableId) (before : UserView T) (start known : Seat (Option T) (UserView T))
      → Begins pool before start → MissesAll 0 pool.slots start.me known.me → GoesOver pool.words 1 start known
      → IsBusy pool before known.table_id known.me.0
  found_busy pool before start known begun missed steps =
      let of_pool = steps.same_pool ∙ begun.of_pool in
      let out = out_since pool.slots pool before start.me.0 _ begun.starts
      (found_out pool.slots pool start.me.0 (record { page = known.table_id; known = known.me.0 }) of_pool
      begun.starts.from_now missed.goes_on
      (λ id within. missed.each_was_out id (omega arith) within)) in
      let more = steps.loads in
      let tries = steps.tries in
      let loads_begun = begun.loads in
      let tries_begun = begun.tries in
      record {
        of_pool = of_pool;
        knows = out.knows;
        each_was_out = out.each_was_out;
        loads = omega arith;
        tries = omega arith;
      }

  pub knows_all_out : (count : ℕ) (start known : User T) → IsSound start.0 → MissesAll 0 count start known → (id : ℕ)
      → id < count → WasOutBetween known.0.opening known.0.at_load known.0.operations id
  knows_all_out count start known sound missed id within =
      knows_out start.0 known.0 id missed.goes_on sound.since_load (missed.each_was_out id (omega arith) within)
