-- The world's transition relation: what each event answers and leaves, by the point of its agent.
use Rattle.std.specs.Prelude.{◌≡◌, ◌⊎◌, ℕ, ◌+◌, ◌-◌, ◌^◌, ◌==◌, nat_lt, Bool, true, false, bit_and, bit_or, nat_eq}
use Rattle.std.specs.Prelude.{if◌then◌else◌, Option, Some, None, option_map, option_and_then, List, [], ◌∷◌, ◌++◌, map}
use Rattle.std.specs.Prelude.{length, slice_get, slice_set, Result, Ok, Err, ⊤}
use Rattle.std.specs.Int.{w32, bit_at, bit_not, trailing_zeros}
use Rattle.std.specs.Option.{option_eq, option_flatten, option_map_or}
use Rattle.pool_parts.specs.declared.pull_error.PullError.{PullError}
use Rattle.pool_parts.specs.declared.pull_error.PullError.TheVariants.{Memory, Init, Limit}
use Rattle.pool_world.specs.declared.interleave.event.Event.{Event}
use Rattle.pool_world.specs.declared.interleave.event.Event.TheVariants as event
use Rattle.pool_world.specs.declared.interleave.event.Seen.{Seen}
use Rattle.pool_world.specs.declared.interleave.event.Seen.TheVariants as seen
use Rattle.pool_world.specs.declared.interleave.point.Point.{Point}
use Rattle.pool_world.specs.declared.interleave.point.Point.TheVariants.{Reading, Clearing, AtLink}
use Rattle.pool_world.specs.declared.interleave.point.Point.TheVariants.{ClearingHinted, Making, Linking, Taken}
use Rattle.pool_world.specs.declared.interleave.point.Point.TheVariants.{Holding, Home, Ended}
use Rattle.pool_world.specs.Pool.{number}
use Rattle.pool_world.specs.World.State.{WorldPageState, WorldState}
use Rattle.pool_parts.specs.declared.page.word.TheConstants.{PAGE_ITEMS}

-- the bit of an id is set in the word
abbrev pub has_bit : ℕ → ℕ → Bool
has_bit word id = bit_at word id == 1

-- the word with the bit of an id set
abbrev pub with_bit : ℕ → ℕ → ℕ
with_bit word id = bit_or word (2 ^ id)

-- the word with the bit of an id clear
abbrev pub without_bit : ℕ → ℕ → ℕ
without_bit word id = bit_and word (bit_not w32 (2 ^ id))

module _ {T : Type 0} where
  -- a page that was just linked with these values: each of its items is free, and each of the 32
  -- bits set
  abbrev pub linked_page : List T → WorldPageState T
  linked_page values = record { word = 4294967295; places = map Some values }

  -- the word of page k, 0 where there is no such page
  abbrev pub word_of : List (WorldPageState T) → ℕ → ℕ
  word_of pages k = option_map_or (λ page. page.word) (slice_get pages k) 0

  -- the value at place `id` of page k, if one lies there
  abbrev pub page_value : List (WorldPageState T) → ℕ → ℕ → Option T
  page_value pages k id = option_flatten (option_and_then (λ page. slice_get page.places id) (slice_get pages k))

  -- the pages with this one in place of page k, if there is one
  abbrev pub with_page : List (WorldPageState T) → ℕ → Option (WorldPageState T) → List (WorldPageState T)
  with_page pages k None = pages
  with_page pages k (Some page) = slice_set pages k page

  -- the pages with another word on page k
  abbrev pub with_word : List (WorldPageState T) → ℕ → ℕ → List (WorldPageState T)
  with_word pages k word =
      with_page pages k
      (option_map (λ page. record { word = word; places = page.places }) (slice_get pages k))

  -- the pages with another value, or none, at a place of page k
  abbrev pub with_page_value : List (WorldPageState T) → ℕ → ℕ → Option T → List (WorldPageState T)
  with_page_value pages k id value =
      with_page pages k
      (option_map (λ page. record { word = page.word; places = slice_set page.places id value })
      (slice_get pages k))

  -- a world of one page of these values, in which no agent has begun
  abbrev pub opening_world : List T → Option ℕ → WorldState T
  opening_world values limit = record { pages = linked_page values ∷ []; agents = []; limit = limit }

  -- the world with its agent at another point
  abbrev pub at_point : WorldState T → ℕ → Point T → WorldState T
  at_point world a point = record world { agents = slice_set world.agents a point }

-- From here on an outcome is an answer, and the world that is left.
module _ {T : Type 0} where
  -- the event isn't enabled, and nothing changes
  abbrev pub not_enabled : WorldState T → Seen × WorldState T
  not_enabled world = (seen.NotEnabled, world)

  -- the same where page k isn't there, which is so of no agent in a world that can be reached
  abbrev if_linked : WorldState T → ℕ → Seen × WorldState T → Seen × WorldState T
  if_linked world k outcome = if nat_lt k (length world.pages) then outcome else not_enabled world

  -- the value that an agent has, from its MoveOut until its MoveHome
  abbrev pub held_by : Option (Point T) → Option T
  held_by (Some (Holding k id value)) = Some value
  held_by _ = None

  -- the number that an agent has out, from its ClearBit until its OrMask
  abbrev pub number_out : Option (Point T) → Option ℕ
  number_out (Some (Taken k id)) = Some (number k id)
  number_out (Some (Holding k id value)) = Some (number k id)
  number_out (Some (Home k id)) = Some (number k id)
  number_out _ = None

  -- where an agent on page k goes next with these bits to try
  abbrev pub tries : ℕ → ℕ → Option ℕ → Point T
  tries k mask asked = if mask == 0 then AtLink k asked else Clearing k mask asked

  -- where an agent on a page that a hint named goes next with these bits to try
  abbrev pub tries_hinted : ℕ → ℕ → Point T
  tries_hinted hint mask = if mask == 0 then AtLink 0 (Some hint) else ClearingHinted hint mask

  -- where an agent goes next that comes to page k: past it, if a hint led there in vain
  abbrev pub comes_to : ℕ → Option ℕ → Point T
  comes_to k asked = if option_eq nat_eq asked (Some k) then AtLink k asked else Reading k asked

  -- an agent reads the word of its page, and tries the bits that it saw
  abbrev pub read_mask : WorldState T → ℕ → Option (Point T) → Seen × WorldState T
  read_mask world a (Some (Reading k asked)) =
      let word = word_of world.pages k in (seen.Word a word, at_point world a (tries k word asked))
  read_mask world a _ = not_enabled world

  -- a hint may name any linked page but the first, to an agent at the first link
  abbrev pub may_name : WorldState T → ℕ → ℕ → Bool
  may_name world k hint =
      if k == 0 then if nat_lt 0 hint then nat_lt hint (length world.pages) else false else false

  -- an agent at the first link, before any hint, reads the word of a page that a hint names
  abbrev pub read_hinted : WorldState T → ℕ → ℕ → Option (Point T) → Seen × WorldState T
  read_hinted world a hint (Some (AtLink k None)) =
      if may_name world k hint
      then (let word = word_of world.pages hint in (seen.Word a word, at_point world a (tries_hinted hint word)))
      else not_enabled world
  read_hinted world a hint _ = not_enabled world

  -- the bit is set in the word: it is cleared there; or it isn't, and the agent goes on
  abbrev pub clears : WorldState T → ℕ → ℕ → ℕ → ℕ → Point T → Seen × WorldState T
  clears world a k id word next =
      if has_bit word id
      then (
        seen.Pulled a (number k id),
        at_point (record world { pages = with_word world.pages k (without_bit word id) }) a (Taken k id),
      )
      else (seen.Found a word, at_point world a next)

  -- the same of an agent on a page that a hint named
  abbrev pub clear_hinted : WorldState T → ℕ → Option (Point T) → Seen × WorldState T
  clear_hinted world a (Some (ClearingHinted hint mask)) =
      if mask == 0
      then not_enabled world
      else clears world a hint (trailing_zeros w32 mask) (word_of world.pages hint)
      (tries_hinted hint (bit_and mask (mask - 1)))
  clear_hinted world a _ = not_enabled world

  -- an agent clears the lowest bit that it has to try, if it is still set; if not, it tries the rest
  abbrev pub clear_bit : WorldState T → ℕ → Option (Point T) → Seen × WorldState T
  clear_bit world a (Some (Clearing k mask asked)) =
      if mask == 0
      then not_enabled world
      else clears world a k (trailing_zeros w32 mask) (word_of world.pages k)
      (tries k (bit_and mask (mask - 1)) asked)
  clear_bit world a lookup = clear_hinted world a lookup

  -- an agent that found its page full goes to the next, is refused at the limit, or makes a page
  abbrev pub read_next : WorldState T → ℕ → Option (Point T) → Seen × WorldState T
  read_next world a (Some (AtLink k asked)) =
      if_linked world k
      (if option_eq nat_eq world.limit (Some (k + 1)) then (seen.Refused a Limit, at_point world a Ended)
      else if length world.pages == k + 1 then (seen.Next a false, at_point world a (Making k))
      else (seen.Next a true, at_point world a (comes_to (k + 1) asked)))
  read_next world a _ = not_enabled world

  -- an agent has the values of a page of its own, or is refused
  abbrev pub make_page : WorldState T → ℕ → Result (List T) PullError → Option (Point T) → Seen × WorldState T
  make_page world a (Ok values) (Some (Making k)) =
      if_linked world k (seen.Made a, at_point world a (Linking k values))
  make_page world a (Err Memory) (Some (Making k)) = (seen.Refused a Memory, at_point world a Ended)
  make_page world a (Err Init) (Some (Making k)) = (seen.Refused a Init, at_point world a Ended)
  make_page world a prepared _ = not_enabled world

  -- an agent links its page behind the last one, or lost that to another and goes on to its page
  abbrev pub exchange_next : WorldState T → ℕ → Option (Point T) → Seen × WorldState T
  exchange_next world a (Some (Linking k values)) =
      if_linked world k
      (if length world.pages == k + 1
      then (
        seen.Linked a,
        at_point (record world { pages = world.pages ++ linked_page values ∷ [] }) a (Reading (k + 1) None),
      )
      else (seen.Lost a, at_point world a (Reading (k + 1) None)))
  exchange_next world a _ = not_enabled world

  -- the value of the place goes to the agent; one lies there in each world that can be reached
  abbrev pub takes : WorldState T → ℕ → ℕ → ℕ → Option T → Seen × WorldState T
  takes world a k id None = not_enabled world
  takes world a k id (Some value) = (
    seen.MovedOut a,
    at_point (record world { pages = with_page_value world.pages k id None }) a (Holding k id value),
  )

  -- an agent takes the value out of the place whose bit it cleared
  abbrev pub move_out : WorldState T → ℕ → Option (Point T) → Seen × WorldState T
  move_out world a (Some (Taken k id)) = takes world a k id (page_value world.pages k id)
  move_out world a _ = not_enabled world

  -- an agent writes the value that it holds
  abbrev pub write : WorldState T → ℕ → T → Option (Point T) → Seen × WorldState T
  write world a value (Some (Holding k id old)) = (seen.Wrote a, at_point world a (Holding k id value))
  write world a value _ = not_enabled world

  -- an agent sets the bit of the number that it returns, and is at its end
  abbrev pub or_mask : WorldState T → ℕ → Option (Point T) → Seen × WorldState T
  or_mask world a (Some (Home k id)) =
      if nat_lt id PAGE_ITEMS
      then (
        seen.Returned a (number k id),
        at_point
            (record world { pages = with_word world.pages k (with_bit (word_of world.pages k) id) }) a Ended,
      )
      else not_enabled world
  or_mask world a _ = not_enabled world

  -- one agent more begins, at page 0
  abbrev pub begin : WorldState T → Seen × WorldState T
  begin world = (
    seen.Began (length world.agents),
    record { pages = world.pages; agents = world.agents ++ Reading 0 None ∷ []; limit = world.limit },
  )

  -- the answer and the world are those of the outcome
  abbrev pub IsOutcome : Seen × WorldState T → Seen → WorldState T → Type 0
  IsOutcome outcome answer new = (answer ≡ outcome.0) × (new ≡ outcome.1)

  -- the world may have to grow for this event: by an agent, or by the room for a page's link
  abbrev pub MayGrow : Event T → Option (Point T) → Type 0
  MayGrow event.Begin point = ⊤
  MayGrow (event.MakePage a (Ok values)) (Some (Making k)) = ⊤
  MayGrow _ _ = ⊥

  -- a page that is linked has 32 values
  abbrev pub LinksWhole : Seen → Option (Point T) → Type 0
  LinksWhole (seen.Linked a) (Some (Linking k values)) = length values ≡ PAGE_ITEMS
  LinksWhole _ _ = ⊤

  -- the agent that an event names
  abbrev pub event_agent : Event T → Option ℕ
  event_agent event.Begin = None
  event_agent (event.ReadMask a) = Some a
  event_agent (event.ReadHinted a hint) = Some a
  event_agent (event.ClearBit a) = Some a
  event_agent (event.ReadNext a) = Some a
  event_agent (event.MakePage a prepared) = Some a
  event_agent (event.ExchangeNext a) = Some a
  event_agent (event.MoveOut a) = Some a
  event_agent (event.Write a value) = Some a
  event_agent (event.MoveHome a) = Some a
  event_agent (event.OrMask a) = Some a

  -- the point of the agent that an event names
  abbrev pub point_of : WorldState T → Event T → Option (Point T)
  point_of world e = option_and_then (λ a. slice_get world.agents a) (event_agent e)

module _ {T : Type 0} (Leaves : T → T → Type 0) where
  -- reset runs on the agent's value, and what it leaves goes to the value's place
  abbrev pub MovesHome : WorldState T → ℕ → Option (Point T) → Seen → WorldState T → Type 0
  MovesHome old a (Some (Holding k id value)) answer new =
      (kept : T) × Leaves value kept
      × IsOutcome
      (seen.MovedHome a, at_point (record old { pages = with_page_value old.pages k id (Some kept) }) a (Home k id))
      answer new
  MovesHome old a _ answer new = IsOutcome (not_enabled old) answer new

  -- the transition of an event
  abbrev pub Transition : WorldState T → Event T → Seen → WorldState T → Type 0
  Transition old event.Begin answer new = IsOutcome (begin old) answer new
  Transition old (event.ReadMask a) answer new = IsOutcome (read_mask old a (slice_get old.agents a)) answer new
  Transition old (event.ReadHinted a hint) answer new =
      IsOutcome (read_hinted old a hint (slice_get old.agents a)) answer new
  Transition old (event.ClearBit a) answer new = IsOutcome (clear_bit old a (slice_get old.agents a)) answer new
  Transition old (event.ReadNext a) answer new = IsOutcome (read_next old a (slice_get old.agents a)) answer new
  Transition old (event.MakePage a prepared) answer new =
      IsOutcome (make_page old a prepared (slice_get old.agents a)) answer new
  Transition old (event.ExchangeNext a) answer new =
      IsOutcome (exchange_next old a (slice_get old.agents a)) answer new
      × LinksWhole answer (slice_get old.agents a)
  Transition old (event.MoveOut a) answer new = IsOutcome (move_out old a (slice_get old.agents a)) answer new
  Transition old (event.Write a value) answer new = IsOutcome (write old a value (slice_get old.agents a)) answer new
  Transition old (event.MoveHome a) answer new = MovesHome old a (slice_get old.agents a) answer new
  Transition old (event.OrMask a) answer new = IsOutcome (or_mask old a (slice_get old.agents a)) answer new

  -- one step: the event's transition; or the world had to grow and couldn't, and nothing changes
  abbrev pub Steps : WorldState T → Event T → Seen → WorldState T → Type 0
  Steps old e answer new =
      Transition old e answer new ⊎ (MayGrow e (point_of old e) × (answer ≡ seen.NoMemory) × (new ≡ old))
