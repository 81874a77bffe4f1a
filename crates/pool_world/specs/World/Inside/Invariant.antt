-- The invariant: how the acts that were seen, the words,
-- the places and the points of the agents belong together.
use Rattle.std.specs.Prelude.{◌≡◌, ℕ, ◌+◌, ◌^◌, ◌<◌, false, Option, Some, None, List, [], length, slice_get, ⊤, IfSome}
use Rattle.pool_world.specs.declared.interleave.point.Point.{Point}
use Rattle.pool_world.specs.declared.interleave.point.Point.TheVariants.{Reading, Clearing, AtLink}
use Rattle.pool_world.specs.declared.interleave.point.Point.TheVariants.{ClearingHinted, Making, Linking, Taken}
use Rattle.pool_world.specs.declared.interleave.point.Point.TheVariants.{Holding, Home, Ended}
use Rattle.pool_world.specs.Pool.{IsSame, AllowsPages, number}
use Rattle.pool_world.specs.Run.{Act, acts_of, pool_of, Looks, Holds, SawTaken, SawPagesTaken, Since, Run}
use Rattle.pool_world.specs.Run.{SawTakenBeforeEach}
use Rattle.pool_world.specs.World.State.{WorldPageState, WorldState}
use Rattle.pool_world.specs.World.Machine.{has_bit, page_value}
use Rattle.pool_world.specs.World.AbstractPool.{abstract_pool}
use Rattle.pool_world.specs.World.Trace.{Log, last_made, IsTraceOf}
use Rattle.pool_parts.specs.declared.page.word.TheConstants.{PAGE_ITEMS}

module _ {T : Type 0} (first : List T) where
  -- an agent saw each number of a page taken, which is one of so many that are linked
  pub record SawFull (acts : List (Act T)) (pages a k : ℕ) : Type 0 where
    pub linked : k < pages
    pub saw_taken : (id : ℕ) → id < PAGE_ITEMS → SawTaken first acts a (number k id)

  -- an agent is on page k, and saw each number of so many pages taken, and of the page to which a
  -- hint led in vain, if one did
  pub record IsOn (acts : List (Act T)) (pages a k full : ℕ) (asked : Option ℕ) : Type 0 where
    pub looking : Looks (acts_of a acts)
    pub linked : k < pages
    pub saw_taken : SawPagesTaken first acts a full
    pub asked_full : IfSome asked (λ hint. SawFull acts pages a hint)

  -- it looks on page k, past the pages before it; or it is past page k too
  abbrev pub LooksOn : List (Act T) → ℕ → ℕ → ℕ → Option ℕ → Type 0
  LooksOn acts pages a k asked = IsOn acts pages a k k asked

  abbrev pub IsPast : List (Act T) → ℕ → ℕ → ℕ → Option ℕ → Type 0
  IsPast acts pages a k asked = IsOn acts pages a k (k + 1) asked

  -- and page k was the last page at some place, after which one more is allowed
  pub record IsAtLastPage (acts : List (Act T)) (limit : Option ℕ) (pages a k : ℕ) : Type 0 where
    pub past : IsPast acts pages a k None
    pub last : Since first a (λ pool. pool.pages ≡ k + 1) acts
    pub allowed : AllowsPages limit (k + 1 + 1)

  -- an agent has bits of page k to try, and saw the numbers of the others taken
  pub record TriesBits (acts : List (Act T)) (a k mask : ℕ) : Type 0 where
    pub some : 0 < mask
    pub in_word : mask < 2 ^ 32
    pub others : (id : ℕ) → id < PAGE_ITEMS → has_bit mask id ≡ false → SawTaken first acts a (number k id)

  -- an agent that found the first page full has bits to try on a further page, which a hint named
  pub record TriesHinted (acts : List (Act T)) (pages a hint mask : ℕ) : Type 0 where
    pub past : IsPast acts pages a 0 None
    pub further : 0 < hint
    pub linked : hint < pages
    pub bits : TriesBits acts a hint mask

module _ {T : Type 0} where
  -- an agent holds the number at a place with this value
  pub record HoldsAt (acts : List (Act T)) (pages a k id : ℕ) (value : T) : Type 0 where
    pub linked : k < pages
    pub in_page : id < PAGE_ITEMS
    pub holds : Holds acts a (number k id) value

module _ {T : Type 0} (Leaves : T → T → Type 0) (first : List T) where
  -- what is known of an agent at its point
  abbrev pub AgentKnows : Log T → List (Act T) → WorldState T → ℕ → Point T → Type 0
  AgentKnows log acts world a (Reading k asked) = LooksOn first acts (length world.pages) a k asked
  AgentKnows log acts world a (Clearing k mask asked) =
      LooksOn first acts (length world.pages) a k asked × TriesBits first acts a k mask
  AgentKnows log acts world a (AtLink k asked) = IsPast first acts (length world.pages) a k asked
  AgentKnows log acts world a (ClearingHinted hint mask) = TriesHinted first acts (length world.pages) a hint mask
  AgentKnows log acts world a (Making k) = IsAtLastPage first acts world.limit (length world.pages) a k
  AgentKnows log acts world a (Linking k values) =
      IsAtLastPage first acts world.limit (length world.pages) a k × (last_made log a ≡ Some values)
  AgentKnows log acts world a (Taken k id) =
      (value : T) × HoldsAt acts (length world.pages) a k id value × (page_value world.pages k id ≡ Some value)
  AgentKnows log acts world a (Holding k id value) = HoldsAt acts (length world.pages) a k id value
  AgentKnows log acts world a (Home k id) =
      (value : T) × (kept : T) × HoldsAt acts (length world.pages) a k id value × Leaves value kept
      × (page_value world.pages k id ≡ Some kept)
  AgentKnows log acts world a Ended = ⊤

  -- what is known of an agent that may not have begun
  abbrev pub AgentKnowsIf : Log T → List (Act T) → WorldState T → ℕ → Option (Point T) → Type 0
  AgentKnowsIf log acts world a None = acts_of a acts ≡ []
  AgentKnowsIf log acts world a (Some point) = AgentKnows log acts world a point

  -- the acts are what the log shows, they are a run, and the world is where they lead
  pub record Agrees (log : Log T) (acts : List (Act T)) (world : WorldState T) : Type 0 where
    pub reads : IsTraceOf log acts
    pub run : Run Leaves world.limit first acts
    pub saw_taken : SawTakenBeforeEach first acts
    pub same : IsSame (pool_of first acts) (abstract_pool world)
    pub words : (k : ℕ) (page : WorldPageState T) → slice_get world.pages k ≡ Some page → page.word < 2 ^ 32
    pub places :
        (k : ℕ) (page : WorldPageState T) → slice_get world.pages k ≡ Some page → length page.places ≡ PAGE_ITEMS
    pub allowed : AllowsPages world.limit (length world.pages)
    pub agents : (a : ℕ) → AgentKnowsIf log acts world a (slice_get world.agents a)
