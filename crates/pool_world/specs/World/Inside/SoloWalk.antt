-- Where an agent is that runs solo, after each of its steps.
use Rattle.std.specs.Prelude.{◌≡◌, ◌≢◌, ◌⊎◌, ℕ, ◌+◌, ◌*◌, ◌<◌, ◌≤◌, Option, Some, None, List, length, IsSome}
use Rattle.pool_parts.specs.declared.pull_error.PullError.TheVariants.{Limit}
use Rattle.pool_world.specs.declared.interleave.event.Seen.TheVariants as seen
use Rattle.pool_world.specs.declared.interleave.point.Point.{Point}
use Rattle.pool_world.specs.declared.interleave.point.Point.TheVariants.{Reading, Clearing, AtLink}
use Rattle.pool_world.specs.declared.interleave.point.Point.TheVariants.{ClearingHinted, Making, Linking, Taken}
use Rattle.pool_world.specs.World.State.{WorldPageState, WorldState}
use Rattle.pool_world.specs.World.Machine.{held_by, word_of}
use Rattle.pool_world.specs.World.Trace.{Log}
use Rattle.pool_world.specs.World.Solo.{IsOwnEvent, AsksNoHint, EachEvent, IsAnswered}

-- an agent came here by its step of this count, or later by the steps that a hint may cost; where
-- it asks by none, it came by just that step
pub record ComesBy (extra count n : ℕ) : Type 0 where
  pub most : n ≤ count + extra
  pub exact : extra ≡ 0 → n ≡ count

module _ {T : Type 0} where
  -- the page to which a hint led, if one did, has no free number; and no hint led where none may
  pub record AskedInVain (extra : ℕ) (pages : List (WorldPageState T)) (asked : Option ℕ) : Type 0 where
    pub full : (hint : ℕ) → asked ≡ Some hint → word_of pages hint ≡ 0
    pub unasked : extra ≡ 0 → asked ≡ None

  -- an agent's way: the pages before page k are full, and page k has a free number, or isn't there
  -- yet, so that two steps more make and link it
  pub record IsWay (pages : List (WorldPageState T)) (k c : ℕ) : Type 0 where
    pub some : 0 < length pages
    pub full : (j : ℕ) → j < k → word_of pages j ≡ 0
    pub goal : ((k < length pages) × (c ≡ 0) × (0 < word_of pages k)) ⊎ ((length pages ≡ k) × (c ≡ 2))

  -- an agent is past the links before page k, after n steps
  pub data IsOnward (extra : ℕ) (pages : List (WorldPageState T)) (k c n : ℕ) (world : WorldState T)
      (lookup : Option (Point T)) : Type 0 where
    AtMaking : (m : ℕ) → length pages ≡ m + 1 → length pages ≡ k → ComesBy extra (2 * k) n
        → lookup ≡ Some (Making m) → world.pages ≡ pages → IsOnward extra pages k c n world lookup
    AtLinking : (m : ℕ) (values : List T) → length pages ≡ m + 1 → length pages ≡ k → ComesBy extra (2 * k + 1) n
        → lookup ≡ Some (Linking m values) → world.pages ≡ pages → IsOnward extra pages k c n world lookup
    AtWord : (all : List (WorldPageState T)) (asked : Option ℕ) → 0 < word_of all k → ComesBy extra (c + 2 * k) n
        → lookup ≡ Some (Reading k asked) → world.pages ≡ all → IsOnward extra pages k c n world lookup
    AtBits : (all : List (WorldPageState T)) (asked : Option ℕ) → ComesBy extra (c + 2 * k + 1) n
        → lookup ≡ Some (Clearing k (word_of all k) asked) → world.pages ≡ all
        → IsOnward extra pages k c n world lookup
    AtHinted : (hint : ℕ) → ComesBy extra (c + 2 * k + 1) n
        → lookup ≡ Some (ClearingHinted hint (word_of pages hint)) → world.pages ≡ pages
        → IsOnward extra pages k c n world lookup
    HasTaken : (j id : ℕ) → ComesBy extra (c + 2 * k + 2) n → lookup ≡ Some (Taken j id)
        → IsOnward extra pages k c n world lookup

  -- where an agent is on its way, after n steps
  pub data SoloWalk (extra : ℕ) (pages : List (WorldPageState T)) (limit : Option ℕ) (k c n a : ℕ) (log : Log T)
      (world : WorldState T) (lookup : Option (Point T)) : Type 0 where
    AtFull : (j : ℕ) (asked : Option ℕ) → j < k → ComesBy extra (2 * j) n → (j ≡ 0 → n ≡ 0)
        → AskedInVain extra pages asked
        → lookup ≡ Some (Reading j asked) → world.pages ≡ pages → world.limit ≡ limit
        → SoloWalk extra pages limit k c n a log world lookup
    AtChain : (j : ℕ) (asked : Option ℕ) → j < k → ComesBy extra (2 * j + 1) n → (j ≡ 0 → asked ≡ None → n ≤ 1)
        → AskedInVain extra pages asked
        → lookup ≡ Some (AtLink j asked) → world.pages ≡ pages → world.limit ≡ limit
        → SoloWalk extra pages limit k c n a log world lookup
    Onward : (length pages ≡ k → limit ≢ Some (length pages)) → IsOnward extra pages k c n world lookup
        → SoloWalk extra pages limit k c n a log world lookup
    HasMoved : (length pages ≡ k → limit ≢ Some (length pages)) → (extra ≡ 0 → c + 2 * k + 3 ≤ n)
        → IsAnswered log (seen.MovedOut a) → (extra ≡ 0 → n ≡ c + 2 * k + 3 → IsSome (held_by lookup))
        → SoloWalk extra pages limit k c n a log world lookup
    IsRefused : (length pages ≡ k) → (limit ≡ Some (length pages)) → IsAnswered log (seen.Refused a Limit)
        → SoloWalk extra pages limit k c n a log world lookup

  -- each of the events is this agent's, and asks no page by a hint
  abbrev pub IsUnhinted : ℕ → Log T → Type 0
  IsUnhinted a log = EachEvent (λ e answer. IsOwnEvent a e answer × AsksNoHint e answer) log
