-- What happens in a step: which agent moves, by which event, and what it answers and leaves.
use Rattle.std.proofs.Common.{◌≡◌, ◌≢◌, inl, inr, ℕ, ◌+◌, ◌<◌, ◌==◌, nat_lt, Bool, true, false, if◌then◌else◌, nat_eq}
use Rattle.std.proofs.Common.{bit_and, ◌-◌}
use Rattle.std.proofs.Common.{Option, Some, None}
use Rattle.std.proofs.Common.{List, [], ◌∷◌, ◌++◌, length, slice_get, slice_set, Result, Ok, Err, refl, ap, sym, ◌∙◌}
use Rattle.std.proofs.Common.{subst, arith}
use Rattle.std.proofs.lemmas.Bool.{eq-eqb, lt-ltb, eqb-true, eqb-false, ltb-true, ltb-false, false≢true}
use Rattle.std.specs.Option.{option_eq}
use Rattle.std.specs.Int.{w32, trailing_zeros}
use Rattle.pool_parts.specs.declared.page.word.TheConstants.{PAGE_ITEMS}
use Rattle.pool_parts.specs.declared.pull_error.PullError.{PullError}
use Rattle.pool_parts.specs.declared.pull_error.PullError.TheVariants.{Memory, Init, Limit, Closed}
use Rattle.pool_world.specs.declared.interleave.event.Event.{Event}
use Rattle.pool_world.specs.declared.interleave.event.Event.TheVariants as event
use Rattle.pool_world.specs.declared.interleave.event.Seen.{Seen}
use Rattle.pool_world.specs.declared.interleave.event.Seen.TheVariants as seen
use Rattle.pool_world.specs.declared.interleave.point.Point.{Point}
use Rattle.pool_world.specs.declared.interleave.point.Point.TheVariants.{Reading, Clearing, AtLink}
use Rattle.pool_world.specs.declared.interleave.point.Point.TheVariants.{ClearingHinted, Making, Linking, Taken}
use Rattle.pool_world.specs.declared.interleave.point.Point.TheVariants.{Holding, Home, Ended}
use Rattle.pool_world.specs.Pool.{number}
use Rattle.pool_world.specs.Run.{Act}
use Rattle.pool_world.specs.World.State.{WorldPageState, WorldState}
use Rattle.pool_world.specs.World.Machine.{IsOutcome, not_enabled, has_bit, with_bit, without_bit}
use Rattle.pool_world.specs.World.Machine.{word_of, with_word, page_value}
use Rattle.pool_world.specs.World.Machine.{with_page_value, linked_page, tries, tries_hinted, comes_to}
use Rattle.pool_world.specs.World.Machine.{may_name, takes, read_mask, read_hinted, clear_bit, read_next}
use Rattle.pool_world.specs.World.Machine.{make_page, exchange_next, move_out, write, or_mask, begin, MovesHome}
use Rattle.pool_world.specs.World.Machine.{LinksWhole, event_agent, point_of, MayGrow}
use Rattle.pool_world.specs.World.Machine.{Steps}
use Rattle.pool_world.specs.World.Trace.{Log}
use Rattle.pool_world.specs.World.Enabled.{IsEnabled}
use Rattle.pool_world.specs.World.OwnSteps.{is_idle}
use Rattle.pool_world.specs.World.Inside.Invariant.{AgentKnows, AgentKnowsIf, Agrees}

all-three : (one two three : Bool) → (if one then if two then three else false else false) ≡ true
    → (one ≡ true) × (two ≡ true) × (three ≡ true)
all-three true true three is = (refl, refl, is)
all-three true false three is = absurd (false≢true is)
all-three false two three is = absurd (false≢true is)

-- what a hint may name
may_name-is : {T : Type 0} (world : WorldState T) (k hint : ℕ) → may_name world k hint ≡ true
    → (k ≡ 0) × (0 < hint) × (hint < length world.pages)
may_name-is world k hint may =
    let (first_link, further, linked) = all-three (k == 0) (nat_lt 0 hint) (nat_lt hint (length world.pages)) may in
    (eqb-true k 0 first_link, ltb-true 0 hint further, ltb-true hint (length world.pages) linked)

module _ {T : Type 0} where
  -- the world with other pages, and an agent at another point
  abbrev pub moved : WorldState T → List (WorldPageState T) → ℕ → Point T → WorldState T
  moved world pages a point = record { pages = pages; agents = slice_set world.agents a point; limit = world.limit }

module _ {T : Type 0} (Leaves : T → T → Type 0) (old : WorldState T) (a : ℕ) where
  -- an agent moves: from where, by which event, with which answer, which pages it leaves, and to
  -- where
  pub data Moves : Point T → Event T → Seen → List (WorldPageState T) → Point T → Type 0 where
    Reads : (k : ℕ) (asked : Option ℕ)
        → Moves (Reading k asked) (event.ReadMask a) (seen.Word a (word_of old.pages k)) old.pages
        (tries k (word_of old.pages k) asked)
    ReadsByHint : (hint : ℕ) → 0 < hint → hint < length old.pages
        → Moves (AtLink 0 None) (event.ReadHinted a hint) (seen.Word a (word_of old.pages hint)) old.pages
        (tries_hinted hint (word_of old.pages hint))
    Clears : (k mask : ℕ) (asked : Option ℕ) → has_bit (word_of old.pages k) (trailing_zeros w32 mask) ≡ true
        → Moves (Clearing k mask asked) (event.ClearBit a) (seen.Pulled a (number k (trailing_zeros w32 mask)))
        (with_word old.pages k (without_bit (word_of old.pages k) (trailing_zeros w32 mask)))
        (Taken k (trailing_zeros w32 mask))
    LosesBit : (k mask : ℕ) (asked : Option ℕ) → has_bit (word_of old.pages k) (trailing_zeros w32 mask) ≡ false
        → Moves (Clearing k mask asked) (event.ClearBit a) (seen.Found a (word_of old.pages k)) old.pages
        (tries k (bit_and mask (mask - 1)) asked)
    ClearsByHint : (hint mask : ℕ) → has_bit (word_of old.pages hint) (trailing_zeros w32 mask) ≡ true
        → Moves (ClearingHinted hint mask) (event.ClearBit a) (seen.Pulled a (number hint (trailing_zeros w32 mask)))
        (with_word old.pages hint (without_bit (word_of old.pages hint) (trailing_zeros w32 mask)))
        (Taken hint (trailing_zeros w32 mask))
    LosesBitByHint : (hint mask : ℕ) → has_bit (word_of old.pages hint) (trailing_zeros w32 mask) ≡ false
        → Moves (ClearingHinted hint mask) (event.ClearBit a) (seen.Found a (word_of old.pages hint)) old.pages
        (tries_hinted hint (bit_and mask (mask - 1)))
    MeetsLimit : (k : ℕ) (asked : Option ℕ) → option_eq nat_eq old.limit (Some (k + 1)) ≡ true
        → Moves (AtLink k asked) (event.ReadNext a) (seen.Refused a Limit) old.pages Ended
    FindsNoNext : (k : ℕ) (asked : Option ℕ) → option_eq nat_eq old.limit (Some (k + 1)) ≡ false
        → length old.pages ≡ k + 1
        → Moves (AtLink k asked) (event.ReadNext a) (seen.Next a false) old.pages (Making k)
    GoesNext : (k : ℕ) (asked : Option ℕ) → length old.pages ≢ k + 1
        → Moves (AtLink k asked) (event.ReadNext a) (seen.Next a true) old.pages (comes_to (k + 1) asked)
    MakesPage : (k : ℕ) (values : List T)
        → Moves (Making k) (event.MakePage a (Ok values)) (seen.Made a) old.pages (Linking k values)
    LacksMemory : (k : ℕ)
        → Moves (Making k) (event.MakePage a (Err Memory)) (seen.Refused a Memory) old.pages Ended
    LacksValues : (k : ℕ) → Moves (Making k) (event.MakePage a (Err Init)) (seen.Refused a Init) old.pages Ended
    LinksPage : (k : ℕ) (values : List T) → length values ≡ PAGE_ITEMS → length old.pages ≡ k + 1
        → Moves (Linking k values) (event.ExchangeNext a) (seen.Linked a) (old.pages ++ linked_page values ∷ [])
        (Reading (k + 1) None)
    LosesLink : (k : ℕ) (values : List T) → length old.pages ≢ k + 1
        → Moves (Linking k values) (event.ExchangeNext a) (seen.Lost a) old.pages (Reading (k + 1) None)
    TakesValue : (k id : ℕ) (value : T) → page_value old.pages k id ≡ Some value
        → Moves (Taken k id) (event.MoveOut a) (seen.MovedOut a) (with_page_value old.pages k id None)
        (Holding k id value)
    WritesValue : (k id : ℕ) (before value : T)
        → Moves (Holding k id before) (event.Write a value) (seen.Wrote a) old.pages (Holding k id value)
    PutsValue : (k id : ℕ) (value kept : T) → Leaves value kept
        → Moves (Holding k id value) (event.MoveHome a) (seen.MovedHome a)
        (with_page_value old.pages k id (Some kept)) (Home k id)
    SetsBit : (k id : ℕ)
        → Moves (Home k id) (event.OrMask a) (seen.Returned a (number k id))
        (with_word old.pages k (with_bit (word_of old.pages k) id)) Ended

-- what a step does: nothing, where the event isn't enabled or the world can't grow; an agent
-- begins; or one moves
pub data Happens {T : Type 0} (Leaves : T → T → Type 0) (old : WorldState T) (e : Event T) (point : Option (Point T))
    (answer : Seen) (new : WorldState T) : Type 0 where
  NotEnabled : (IsEnabled old e point → ⊥) → (answer ≡ seen.NotEnabled) → (new ≡ old)
      → Happens Leaves old e point answer new
  NoMemory : MayGrow e point → (answer ≡ seen.NoMemory) → (new ≡ old) → Happens Leaves old e point answer new
  Begins : (e ≡ event.Begin) → IsOutcome (begin old) answer new → Happens Leaves old e point answer new
  Goes : (a : ℕ) (from to : Point T) (pages : List (WorldPageState T)) → slice_get old.agents a ≡ Some from
      → Moves Leaves old a from e answer pages to → (new ≡ moved old pages a to)
      → Happens Leaves old e point answer new

module _ {T : Type 0} {Leaves : T → T → Type 0} {old : WorldState T} where
  -- where an agent moves the event is enabled and names it, and it is answered
  pub move-enabled : {a : ℕ} {from to : Point T} {e : Event T} {answer : Seen} {pages : List (WorldPageState T)}
      → Moves Leaves old a from e answer pages to → IsEnabled old e (Some from)
  move-enabled (ReadsByHint hint further linked) = (refl, further, linked)
  move-enabled _ = tt

  pub move-named : {a : ℕ} {from to : Point T} {e : Event T} {answer : Seen} {pages : List (WorldPageState T)}
      → Moves Leaves old a from e answer pages to → event_agent e ≡ Some a
  move-named (Reads k asked) = refl
  move-named _ = refl

  pub move-busy : {a : ℕ} {from to : Point T} {e : Event T} {answer : Seen} {pages : List (WorldPageState T)}
      → Moves Leaves old a from e answer pages to → is_idle answer ≡ false
  move-busy (Reads k asked) = refl
  move-busy _ = refl

module _ {T : Type 0} {Leaves : T → T → Type 0} {first : List T} {log : Log T} {acts : List (Act T)}
    {old : WorldState T} (agrees : Agrees Leaves first log acts old) where
  -- what the invariant knows of an agent at its point
  pub known : (a : ℕ) (point : Point T) → slice_get old.agents a ≡ Some point
      → AgentKnows Leaves first log acts old a point
  known a point at = let Known : Option (Point T) → Type 0 = AgentKnowsIf Leaves first log acts old a in
      subst Known at (agrees.agents a)

  module _ (answer : Seen) (new : WorldState T) where
    abbrev Does : Event T → Option (Point T) → Type 0
    Does e point = Happens Leaves old e point answer new

    goes : {e : Event T} {point : Option (Point T)} {a : ℕ} {from to : Point T} {pages : List (WorldPageState T)}
        {said : Seen} → slice_get old.agents a ≡ Some from → Moves Leaves old a from e said pages to
        → IsOutcome (said, moved old pages a to) answer new → Does e point
    goes {e = e} {a = a} {from = from} {to = to} {pages = pages} at moves row =
        Goes a from to pages at (rw (sym row.0) at moves) row.1

    unable : {e : Event T} {point : Option (Point T)} → (IsEnabled old e point → ⊥)
        → IsOutcome (not_enabled old) answer new → Does e point
    unable none row = NotEnabled none row.0 row.1

    -- by the outcome of a test
    by-test : {P : Type 0} (test : Bool) (one other : Seen × WorldState T)
        → IsOutcome (if test then one else other) answer new
        → (test ≡ true → IsOutcome one answer new → P) → (test ≡ false → IsOutcome other answer new → P) → P
    by-test true one other row then_is else_is = then_is refl row
    by-test false one other row then_is else_is = else_is refl row

    read_mask-does : (a : ℕ) (point : Option (Point T)) → slice_get old.agents a ≡ point
        → IsOutcome (read_mask old a point) answer new → Does (event.ReadMask a) point
    read_mask-does a (Some (Reading k asked)) at row = goes at (Reads k asked) row
    read_mask-does a _ at row = unable (λ has. has) row

    read_hinted-does : (a hint : ℕ) (point : Option (Point T)) → slice_get old.agents a ≡ point
        → IsOutcome (read_hinted old a hint point) answer new → Does (event.ReadHinted a hint) point
    read_hinted-does a hint (Some (AtLink k None)) at row = by-test (may_name old k hint) _ _ row
        (λ may gave.
        let (is, further, linked) = may_name-is old k hint may in
        goes (at ∙ ap (λ j. Some (AtLink j None)) is) (ReadsByHint hint further linked) gave)
        (λ not gave. unable (λ (first_link, further, linked). absurd (false≢true (sym not
        ∙ rw (
          eq-eqb k 0 first_link,
          lt-ltb 0 hint further,
          lt-ltb hint (length old.pages) linked,
        ) refl))) gave)
    read_hinted-does a hint _ at row = unable (λ has. has) row

    clear_bit-does : (a : ℕ) (point : Option (Point T)) → slice_get old.agents a ≡ point
        → IsOutcome (clear_bit old a point) answer new → Does (event.ClearBit a) point
    clear_bit-does a (Some (Clearing k mask asked)) at row =
        let bits = (known a (Clearing k mask asked) at).1 in
        let some = bits.some in
        by-test (mask == 0) _ _ row (λ none gave. let zero = eqb-true mask 0 none in absurd (omega arith))
        (λ more gave. by-test (has_bit (word_of old.pages k) (trailing_zeros w32 mask)) _ _ gave
        (λ set given. goes at (Clears k mask asked set) given)
        (λ clear given. goes at (LosesBit k mask asked clear) given))
    clear_bit-does a (Some (ClearingHinted hint mask)) at row =
        let bits = (known a (ClearingHinted hint mask) at).bits in
        let some = bits.some in
        by-test (mask == 0) _ _ row (λ none gave. let zero = eqb-true mask 0 none in absurd (omega arith))
        (λ more gave. by-test (has_bit (word_of old.pages hint) (trailing_zeros w32 mask)) _ _ gave
        (λ set given. goes at (ClearsByHint hint mask set) given)
        (λ clear given. goes at (LosesBitByHint hint mask clear) given))
    clear_bit-does a _ at row = unable (λ has. has) row

    read_next-does : (a : ℕ) (point : Option (Point T)) → slice_get old.agents a ≡ point
        → IsOutcome (read_next old a point) answer new → Does (event.ReadNext a) point
    read_next-does a (Some (AtLink k asked)) at row =
        let linked = (known a (AtLink k asked) at).linked in
        by-test (nat_lt k (length old.pages)) _ _ row
        (λ there gave. by-test (option_eq nat_eq old.limit (Some (k + 1))) _ _ gave
        (λ limit given. goes at (MeetsLimit k asked limit) given)
        (λ below given. by-test (length old.pages == k + 1) _ _ given
        (λ last this. goes at (FindsNoNext k asked below (eqb-true (length old.pages) (k + 1) last)) this)
        (λ more this. goes at (GoesNext k asked (eqb-false (length old.pages) (k + 1) more)) this)))
        (λ beyond gave. let none = ltb-false k (length old.pages) beyond in absurd (omega arith))
    read_next-does a _ at row = unable (λ has. has) row

    make_page-does : (a : ℕ) (prepared : Result (List T) PullError) (point : Option (Point T))
        → slice_get old.agents a ≡ point → IsOutcome (make_page old a prepared point) answer new
        → Does (event.MakePage a prepared) point
    make_page-does a (Ok values) (Some (Making k)) at row =
        let linked = (known a (Making k) at).past.linked in
        by-test (nat_lt k (length old.pages)) _ _ row (λ there gave. goes at (MakesPage k values) gave)
        (λ beyond gave. let none = ltb-false k (length old.pages) beyond in absurd (omega arith))
    make_page-does a (Err Memory) (Some (Making k)) at row = goes at (LacksMemory k) row
    make_page-does a (Err Init) (Some (Making k)) at row = goes at (LacksValues k) row
    make_page-does a (Ok values) _ at row = unable (λ has. has) row
    make_page-does a (Err Limit) _ at row = unable (λ has. has) row
    make_page-does a (Err Closed) _ at row = unable (λ has. has) row
    make_page-does a (Err Memory) _ at row = unable (λ has. has) row
    make_page-does a (Err Init) _ at row = unable (λ has. has) row

    exchange_next-does : (a : ℕ) (point : Option (Point T)) → slice_get old.agents a ≡ point
        → IsOutcome (exchange_next old a point) answer new → LinksWhole answer point
        → Does (event.ExchangeNext a) point
    exchange_next-does a (Some (Linking k values)) at row whole =
        let linked = (known a (Linking k values) at).0.past.linked in
        by-test (nat_lt k (length old.pages)) _ _ row
        (λ there gave. by-test (length old.pages == k + 1) _ _ gave
        (λ last given. goes at (LinksPage k values (rw given.0 at whole)
        (eqb-true (length old.pages) (k + 1) last)) given)
        (λ more given. goes at (LosesLink k values (eqb-false (length old.pages) (k + 1) more)) given))
        (λ beyond gave. let none = ltb-false k (length old.pages) beyond in absurd (omega arith))
    exchange_next-does a _ at row whole = unable (λ has. has) row

    takes-does : (a k id : ℕ) → slice_get old.agents a ≡ Some (Taken k id) → (lookup : Option T)
        → page_value old.pages k id ≡ lookup → IsOutcome (takes old a k id lookup) answer new
        → Does (event.MoveOut a) (Some (Taken k id))
    takes-does a k id at None none row = let (value, holds, lies) = known a (Taken k id) at in absurd (cc)
    takes-does a k id at (Some value) some row = goes at (TakesValue k id value some) row

    move_out-does : (a : ℕ) (point : Option (Point T)) → slice_get old.agents a ≡ point
        → IsOutcome (move_out old a point) answer new → Does (event.MoveOut a) point
    move_out-does a (Some (Taken k id)) at row = takes-does a k id at (page_value old.pages k id) refl row
    move_out-does a _ at row = unable (λ has. has) row

    write-does : (a : ℕ) (value : T) (point : Option (Point T)) → slice_get old.agents a ≡ point
        → IsOutcome (write old a value point) answer new → Does (event.Write a value) point
    write-does a value (Some (Holding k id before)) at row = goes at (WritesValue k id before value) row
    write-does a value _ at row = unable (λ has. has) row

    move_home-does : (a : ℕ) (point : Option (Point T)) → slice_get old.agents a ≡ point
        → MovesHome Leaves old a point answer new → Does (event.MoveHome a) point
    move_home-does a (Some (Holding k id value)) at (kept, leaves, row) =
        goes at (PutsValue k id value kept leaves) row
    move_home-does a None at row = unable (λ has. has) row
    move_home-does a _ at row = unable (λ has. has) row

    or_mask-does : (a : ℕ) (point : Option (Point T)) → slice_get old.agents a ≡ point
        → IsOutcome (or_mask old a point) answer new → Does (event.OrMask a) point
    or_mask-does a (Some (Home k id)) at row =
        let (value, kept, holds, leaves, lies) = known a (Home k id) at in
        let within = holds.in_page in
        by-test (nat_lt id 32) _ _ row (λ inside gave. goes at (SetsBit k id) gave)
        (λ beyond gave. let none = ltb-false id 32 beyond in absurd (omega arith))
    or_mask-does a _ at row = unable (λ has. has) row

    pub happens : (e : Event T) → Steps Leaves old e answer new → Does e (point_of old e)
    happens e (inr (may, lacks, same)) = NoMemory may lacks same
    happens event.Begin (inl row) = Begins refl row
    happens (event.ReadMask a) (inl row) = read_mask-does a (slice_get old.agents a) refl row
    happens (event.ReadHinted a hint) (inl row) = read_hinted-does a hint (slice_get old.agents a) refl row
    happens (event.ClearBit a) (inl row) = clear_bit-does a (slice_get old.agents a) refl row
    happens (event.ReadNext a) (inl row) = read_next-does a (slice_get old.agents a) refl row
    happens (event.MakePage a prepared) (inl row) = make_page-does a prepared (slice_get old.agents a) refl row
    happens (event.ExchangeNext a) (inl row) = exchange_next-does a (slice_get old.agents a) refl row.0 row.1
    happens (event.MoveOut a) (inl row) = move_out-does a (slice_get old.agents a) refl row
    happens (event.Write a value) (inl row) = write-does a value (slice_get old.agents a) refl row
    happens (event.MoveHome a) (inl row) = move_home-does a (slice_get old.agents a) refl row
    happens (event.OrMask a) (inl row) = or_mask-does a (slice_get old.agents a) refl row
