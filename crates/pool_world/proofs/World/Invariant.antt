-- What is known of an agent stays known while others step.
use Rattle.std.proofs.Common.{◌≡◌, ◌≢◌, inl, inr, ℕ, ◌+◌, ◌^◌, ◌<◌, ◌≤◌, Option, Some, IfSome}
use Rattle.std.proofs.Common.{None, List, [], ◌∷◌, length, slice_get, slice_set, refl, sym, ◌∙◌, arith}
use Rattle.std.proofs.lemmas.Bool.{cases_eq}
use Rattle.std.proofs.lemmas.Option.{slice_get_within}
use Rattle.pool_world.specs.declared.interleave.event.Event.{Event}
use Rattle.pool_world.specs.declared.interleave.event.Seen.{Seen}
use Rattle.pool_world.specs.declared.interleave.point.Point.{Point}
use Rattle.pool_world.specs.declared.interleave.point.Point.TheVariants.{Reading, Clearing, AtLink}
use Rattle.pool_world.specs.declared.interleave.point.Point.TheVariants.{ClearingHinted, Making, Linking, Taken}
use Rattle.pool_world.specs.declared.interleave.point.Point.TheVariants.{Holding, Home, Ended}
use Rattle.pool_world.specs.Pool.{IsSame, Out, AllowsPages, number}
use Rattle.pool_world.specs.Run.{Act, Grows, agent_of, acts_of, pages_of, pool_of, Holds, SawTaken}
use Rattle.pool_world.specs.Run.{Since, MayCome, SawTakenBefore}
use Rattle.pool_world.specs.World.State.{WorldPageState, WorldState}
use Rattle.pool_world.specs.World.Machine.{page_value}
use Rattle.pool_world.specs.World.AbstractPool.{abstract_pool}
use Rattle.pool_world.specs.World.Trace.{Log, IsHidden, last_made, Shows}
use Rattle.pool_world.specs.World.Inside.Invariant.{SawFull, IsOn, IsAtLastPage, TriesBits}
use Rattle.pool_world.specs.World.Inside.Invariant.{HoldsAt, AgentKnows, AgentKnowsIf, Agrees}
use Rattle.pool_world.proofs.Places.{slice_get-set_same, slice_get-set_other}
use Rattle.pool_world.proofs.Runs.{since-later, other-opens, acts_of-other, holds-same}
use Rattle.pool_world.proofs.World.Moves.{moved}

-- fewer pages are allowed too
pub allows-fewer : (limit : Option ℕ) (fewer pages : ℕ) → fewer ≤ pages → AllowsPages limit pages
    → AllowsPages limit fewer
allows-fewer None fewer pages less allowed = tt
allows-fewer (Some limit) fewer pages less allowed = omega arith

module _ {T : Type 0} (first : List T) where
  -- what an agent knows is carried from one log, run and world to another
  pub record Carries (log later : Log T) (acts more : List (Act T)) (old new : WorldState T) (b : ℕ) : Type 0 where
    pub own : acts_of b more ≡ acts_of b acts
    pub out : (n : ℕ) → SawTaken first acts b n → SawTaken first more b n
    pub had : (count : ℕ) → Since first b (λ pool. pool.pages ≡ count) acts
        → Since first b (λ pool. pool.pages ≡ count) more
    pub pages : length old.pages ≤ length new.pages
    pub limit : new.limit ≡ old.limit
    pub made : last_made later b ≡ last_made log b
    pub values : (k id : ℕ) (value : T) → k < length old.pages → id < 32 → Holds acts b (number k id) value
        → page_value new.pages k id ≡ page_value old.pages k id

module _ {T : Type 0} {first : List T} {log later : Log T} {acts more : List (Act T)} {old new : WorldState T} {b : ℕ}
    (carries : Carries first log later acts more old new b) where
  asked-carried : (asked : Option ℕ) → IfSome asked (λ hint. SawFull first acts (length old.pages) b hint)
      → IfSome asked (λ hint. SawFull first more (length new.pages) b hint)
  asked-carried None full = tt
  asked-carried (Some hint) full = record {
    linked = let below = full.linked in let more_pages = carries.pages in omega arith;
    saw_taken = λ id within. carries.out (number hint id) (full.saw_taken id within);
  }

  bits-carried : (k mask : ℕ) → TriesBits first acts b k mask → TriesBits first more b k mask
  bits-carried k mask bits = record {
    some = bits.some;
    in_word = bits.in_word;
    others = λ id within clear. carries.out (number k id) (bits.others id within clear);
  }

  on-carried : (k full : ℕ) (asked : Option ℕ) → IsOn first acts (length old.pages) b k full asked
      → IsOn first more (length new.pages) b k full asked
  on-carried k full asked on = record {
    looking = rw carries.own on.looking;
    linked = let below = on.linked in let more_pages = carries.pages in omega arith;
    saw_taken = λ n below. carries.out n (on.saw_taken n below);
    asked_full = asked-carried asked on.asked_full;
  }

  end-carried : (k : ℕ) → IsAtLastPage first acts old.limit (length old.pages) b k
      → IsAtLastPage first more new.limit (length new.pages) b k
  end-carried k end = record {
    past = on-carried k (k + 1) None end.past;
    last = carries.had (k + 1) end.last;
    allowed = rw carries.limit end.allowed;
  }

  holds-carried : (k id : ℕ) (value : T) → HoldsAt acts (length old.pages) b k id value
      → HoldsAt more (length new.pages) b k id value
  holds-carried k id value holds = record {
    linked = let below = holds.linked in let more_pages = carries.pages in omega arith;
    in_page = holds.in_page;
    holds = holds-same acts more b (number k id) value carries.own holds.holds;
  }

  module _ (Leaves : T → T → Type 0) where
    knows-carried : (point : Point T) → AgentKnows Leaves first log acts old b point
        → AgentKnows Leaves first later more new b point
    knows-carried (Reading k asked) knows = on-carried k k asked knows
    knows-carried (Clearing k mask asked) knows = (on-carried k k asked knows.0, bits-carried k mask knows.1)
    knows-carried (AtLink k asked) knows = on-carried k (k + 1) asked knows
    knows-carried (ClearingHinted hint mask) knows = record {
      past = on-carried 0 1 None knows.past;
      further = knows.further;
      linked = let below = knows.linked in let more_pages = carries.pages in omega arith;
      bits = bits-carried hint mask knows.bits;
    }
    knows-carried (Making k) knows = end-carried k knows
    knows-carried (Linking k values) knows = (end-carried k knows.0, carries.made ∙ knows.1)
    knows-carried (Taken k id) (value, holds, lies) =
        (value, holds-carried k id value holds, carries.values k id value holds.linked holds.in_page holds.holds ∙ lies)
    knows-carried (Holding k id value) knows = holds-carried k id value knows
    knows-carried (Home k id) (value, kept, holds, leaves, lies) = (
      value,
      kept,
      holds-carried k id value holds,
      leaves,
      carries.values k id value holds.linked holds.in_page holds.holds ∙ lies,
    )
    knows-carried Ended knows = tt

    pub known-carried : (lookup : Option (Point T)) → AgentKnowsIf Leaves first log acts old b lookup
        → AgentKnowsIf Leaves first later more new b lookup
    known-carried None knows = carries.own ∙ knows
    known-carried (Some point) knows = knows-carried point knows

module _ {T : Type 0} where
  -- there is a page from the first on
  pub pages-some : (acts : List (Act T)) → 0 < pages_of acts
  pages-some [] = omega arith
  pages-some (Grows a values ∷ acts) = omega arith
  pages-some (act ∷ acts) = pages-some acts

module _ {T : Type 0} (Leaves : T → T → Type 0) (first : List T) where
  -- pages that an agent may leave by a step: they read as the pool, and what others left lies where
  -- it was
  pub record StepsPages (acts more : List (Act T)) (world : WorldState T) (pages : List (WorldPageState T))
      (a : ℕ) : Type 0 where
    pub count : length world.pages ≤ length pages
    pub same : IsSame (pool_of first more)
        (abstract_pool (record { pages = pages; agents = world.agents; limit = world.limit }))
    pub words : (k : ℕ) (page : WorldPageState T) → slice_get pages k ≡ Some page → page.word < 2 ^ 32
    pub places : (k : ℕ) (page : WorldPageState T) → slice_get pages k ≡ Some page → length page.places ≡ 32
    pub allowed : AllowsPages world.limit (length pages)
    pub values : (b k id : ℕ) (value : T) → a ≢ b → k < length world.pages → id < 32
        → Holds acts b (number k id) value
        → page_value pages k id ≡ page_value world.pages k id

  -- the acts that the steps so far show, which agree with the world
  pub record Agreement (log : Log T) (world : WorldState T) : Type 0 where
    pub acts : List (Act T)
    pub agrees : Agrees Leaves first log acts world

  -- so it is with one step more
  abbrev pub GoesOn : Log T → Event T → Seen → WorldState T → Type 0
  GoesOn log e answer new = Agreement ((e, answer) ∷ log) new

  -- the agents after one of them moved
  agents-moved : (log later : Log T) (acts more : List (Act T)) (old new : WorldState T) (a : ℕ) (from point : Point T)
      → slice_get old.agents a ≡ Some from → AgentKnows Leaves first later more new a point
      → ((b : ℕ) → a ≢ b → Carries first log later acts more old new b)
      → ((b : ℕ) → AgentKnowsIf Leaves first log acts old b (slice_get old.agents b)) → (b : ℕ)
      → AgentKnowsIf Leaves first later more new b (slice_get (slice_set old.agents a point) b)
  agents-moved log later acts more old new a from point at own others before b =
      elim (cases_eq a b) [
        | inl same ↦ rw (sym same, slice_get-set_same old.agents a point (slice_get_within old.agents a from at)) own
        | inr other ↦
            rw (slice_get-set_other old.agents a b point (λ e. other (sym e)))
            (known-carried (others b other) Leaves (slice_get old.agents b) (before b))
      ]

module _ {T : Type 0} {Leaves : T → T → Type 0} {first : List T} {log : Log T} {acts : List (Act T)}
    {world : WorldState T} (agrees : Agrees Leaves first log acts world) where
  -- the pages stay
  pub pages-stay : {more : List (Act T)} {a : ℕ} → pool_of first more ≡ pool_of first acts
      → StepsPages Leaves first acts more world world.pages a
  pages-stay pool = record {
    count = omega arith;
    same = rw pool agrees.same;
    words = agrees.words;
    places = agrees.places;
    allowed = agrees.allowed;
    values = λ b k id value other linked within holds. refl;
  }

  -- a step whose answer shows nothing
  pub hidden-step : (point : Point T) {e : Event T} {answer : Seen} {a : ℕ} {from : Point T}
      {pages : List (WorldPageState T)} → slice_get world.agents a ≡ Some from → IsHidden answer
      → ((b : ℕ) → a ≢ b → last_made ((e, answer) ∷ log) b ≡ last_made log b)
      → StepsPages Leaves first acts acts world pages a
      → AgentKnows Leaves first ((e, answer) ∷ log) acts (moved world pages a point) a point
      → GoesOn Leaves first log e answer (moved world pages a point)
  hidden-step point {e = e} {answer = answer} {a = a} {from = from} {pages = pages} at hidden made left own =
      record {
        acts = acts;
        agrees = record {
          reads = inl (hidden, agrees.reads);
          run = agrees.run;
          saw_taken = agrees.saw_taken;
          same = record { pages = left.same.pages; places = left.same.places };
          words = left.words;
          places = left.places;
          allowed = left.allowed;
          agents = agents-moved Leaves first log ((e, answer) ∷ log) acts acts world (moved world pages a point) a from
              point at own
              (λ b other. record {
                own = refl;
                out = λ n out. out;
                had = λ count had. had;
                pages = left.count;
                limit = refl;
                made = made b other;
                values = λ k id value linked within holds. left.values b k id value other linked within holds;
              })
              agrees.agents;
        };
      }

  -- a step whose answer shows an act
  pub visible-step : (act : Act T) (point : Point T) {e : Event T} {answer : Seen} {a : ℕ} {from : Point T}
      {pages : List (WorldPageState T)} → slice_get world.agents a ≡ Some from → Shows log e answer act
      → MayCome Leaves world.limit first acts act → SawTakenBefore first acts act → agent_of act ≡ a
      → ((b : ℕ) → a ≢ b → last_made ((e, answer) ∷ log) b ≡ last_made log b)
      → StepsPages Leaves first acts (act ∷ acts) world pages a
      → AgentKnows Leaves first ((e, answer) ∷ log) (act ∷ acts) (moved world pages a point) a point
      → GoesOn Leaves first log e answer (moved world pages a point)
  visible-step act point {e = e} {answer = answer} {a = a} {from = from} {pages = pages} at shows may
      saw_taken agent made left own = record {
        acts = act ∷ acts;
        agrees = record {
          reads = inr (act, acts, refl, shows, agrees.reads);
          run = (may, agrees.run);
          saw_taken = (saw_taken, agrees.saw_taken);
          same = record { pages = left.same.pages; places = left.same.places };
          words = left.words;
          places = left.places;
          allowed = left.allowed;
          agents = agents-moved Leaves first log ((e, answer) ∷ log) acts (act ∷ acts) world
              (moved world pages a point) a from point at own
              (λ b other.
              let apart : agent_of act ≢ b = λ is. other (sym agent ∙ is) in
              record {
                own = acts_of-other act acts b apart;
                out = λ n out. since-later first act acts b (λ pool. pool.at n ≡ Out) (other-opens act b apart) out;
                had = λ count had. since-later first act acts b (λ pool. pool.pages ≡ count)
                    (other-opens act b apart) had;
                pages = left.count;
                limit = refl;
                made = made b other;
                values = λ k id value linked within holds. left.values b k id value other linked within holds;
              })
              agrees.agents;
        };
      }

  -- a step whose answer shows nothing, and which leaves the pages
  pub stays : (point : Point T) {e : Event T} {answer : Seen} {a : ℕ} {from : Point T}
      → slice_get world.agents a ≡ Some from → IsHidden answer
      → ((b : ℕ) → a ≢ b → last_made ((e, answer) ∷ log) b ≡ last_made log b)
      → AgentKnows Leaves first ((e, answer) ∷ log) acts (moved world world.pages a point) a point
      → GoesOn Leaves first log e answer (moved world world.pages a point)
  stays point at hidden made own = hidden-step point at hidden made (pages-stay refl) own

  -- nothing happens
  pub idle : (e : Event T) (answer : Seen) → IsHidden answer
      → ((b : ℕ) → last_made ((e, answer) ∷ log) b ≡ last_made log b)
      → GoesOn Leaves first log e answer world
  idle e answer hidden made = record {
    acts = acts;
    agrees = record {
      reads = inl (hidden, agrees.reads);
      run = agrees.run;
      saw_taken = agrees.saw_taken;
      same = agrees.same;
      words = agrees.words;
      places = agrees.places;
      allowed = agrees.allowed;
      agents = λ b. known-carried {log = log} {later = (e, answer) ∷ log} {old = world} {new = world} (record {
        own = refl;
        out = λ n out. out;
        had = λ count had. had;
        pages = omega arith;
        limit = refl;
        made = made b;
        values = λ k id value linked within holds. refl;
      }) Leaves (slice_get world.agents b) (agrees.agents b);
    };
  }
