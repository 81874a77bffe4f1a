-- What each step does by which something happens to an agent that runs solo.
use Rattle.std.specs.Bool.{⊤}
use Rattle.std.proofs.Common.{◌≡◌, ◌≢◌, ◌⊎◌, inl, inr, ℕ, ◌+◌, ◌^◌, ◌<◌, true, false, if◌then◌else◌, Option, Some}
use Rattle.std.proofs.Common.{None, nat_eq, IsSome}
use Rattle.std.proofs.Common.{List, [], ◌∷◌, ◌++◌, length, slice_get, refl, ap, sym, ◌∙◌, arith}
use Rattle.std.proofs.lemmas.Bool.{eq-eqb, ne_eqb, false≢true, cases_Bool}
use Rattle.std.proofs.lemmas.Option.{slice_get_within}
use Rattle.std.specs.Option.{option_eq}
use Rattle.std.specs.Int.{w32, trailing_zeros}
use Rattle.pool_parts.specs.declared.pull_error.PullError.TheVariants.{Limit}
use Rattle.pool_world.specs.declared.interleave.event.Event.{Event}
use Rattle.pool_world.specs.declared.interleave.event.Seen.{Seen}
use Rattle.pool_world.specs.declared.interleave.event.Seen.TheVariants as seen
use Rattle.pool_world.specs.declared.interleave.point.Point.{Point}
use Rattle.pool_world.specs.declared.interleave.point.Point.TheVariants.{Reading, Clearing, AtLink}
use Rattle.pool_world.specs.declared.interleave.point.Point.TheVariants.{ClearingHinted, Making, Linking, Taken}
use Rattle.pool_world.specs.World.State.{WorldPageState, WorldState}
use Rattle.pool_world.specs.World.Machine.{held_by, tries, tries_hinted, comes_to, linked_page, Steps, event_agent}
use Rattle.pool_world.specs.World.Machine.{point_of}
use Rattle.pool_world.specs.World.Machine.{word_of, has_bit}
use Rattle.pool_world.specs.Pool.{AllowsPages}
use Rattle.pool_world.specs.World.Trace.{Log}
use Rattle.pool_world.specs.World.Headline.{Executes, IsReachable}
use Rattle.pool_world.specs.World.OwnSteps.{is_idle, own_steps}
use Rattle.pool_world.specs.World.Solo.{IsOwnEvent, AsksNoHint, BringsPage, EachEvent}
use Rattle.pool_world.proofs.Places.{slice_get-set_same}
use Rattle.pool_world.proofs.World.Bits.{has_bit-lowest}
use Rattle.pool_world.proofs.World.Enabled.{any-step, reached-agrees, known-reached, reached-happens}
use Rattle.pool_world.proofs.World.LinkSteps.{limit-is, is-limit}
use Rattle.pool_world.proofs.World.Moves.{moved, Moves, Reads, ReadsByHint, Clears, LosesBit, ClearsByHint}
use Rattle.pool_world.proofs.World.Moves.{LosesBitByHint, MeetsLimit, FindsNoNext, GoesNext, MakesPage}
use Rattle.pool_world.proofs.World.Moves.{LacksMemory, LacksValues, LinksPage, LosesLink, TakesValue}
use Rattle.pool_world.proofs.World.Moves.{Happens, NotEnabled, NoMemory, Begins, Goes, move-named}
use Rattle.pool_world.proofs.World.Reachable.{ran-reached}

-- a step of the agent by which something happened, in a world that can be reached
pub record IsSoloStep {T : Type 0} (old : WorldState T) (a : ℕ) (e : Event T) (answer : Seen)
    (new : WorldState T) : Type 0 where
  pub own : event_agent e ≡ Some a
  pub busy : is_idle answer ≡ false
  pub reached : IsReachable old
  pub step : Steps (λ before kept. ⊤) old e answer new

-- an idle answer is that the event isn't enabled, where no memory was missing
pub idle-not_enabled : (answer : Seen) → is_idle answer ≡ true → answer ≢ seen.NoMemory → answer ≡ seen.NotEnabled
idle-not_enabled seen.NotEnabled idle memory = refl
idle-not_enabled seen.NoMemory idle memory = absurd (memory refl)
idle-not_enabled _ idle memory = absurd (cc)

-- there is no limit below the pages that there are
no-limit : (limit : Option ℕ) (pages count : ℕ) → count < pages → AllowsPages limit pages → limit ≢ Some count
no-limit None pages count less allowed is = cc
no-limit (Some limit) pages count less allowed is =
    let same : limit ≡ count = cc in absurd (omega arith)

module _ {T : Type 0} (old : WorldState T) (a : ℕ) where
  abbrev OwnMoves : Point T → Event T → Seen → List (WorldPageState T) → Point T → Type 0
  OwnMoves = Moves (λ before kept. ⊤) old a

  -- an agent at a link is refused, makes a page, or goes on to the next one
  pub data LeavesLink (j : ℕ) (asked : Option ℕ) (answer : Seen) (pages : List (WorldPageState T))
      (to : Point T) : Type 0 where
    IsLimited : (old.limit ≡ Some (j + 1)) → (answer ≡ seen.Refused a Limit) → LeavesLink j asked answer pages to
    ToMaking : (length old.pages ≡ j + 1) → (old.limit ≢ Some (j + 1)) → (pages ≡ old.pages) → (to ≡ Making j)
        → LeavesLink j asked answer pages to
    ToNext : (length old.pages ≢ j + 1) → (pages ≡ old.pages) → (to ≡ comes_to (j + 1) asked)
        → LeavesLink j asked answer pages to

  -- an agent at the first link asks a page by a hint, which it hadn't done before
  pub record ReadsHint (j : ℕ) (asked : Option ℕ) (e : Event T) (answer : Seen) (pages : List (WorldPageState T))
      (to : Point T) : Type 0 where
    pub first_link : j ≡ 0
    pub unasked : asked ≡ None
    pub asks : AsksNoHint e answer → ⊥
    pub hint : ℕ
    pub linked : hint < length old.pages
    pub same : pages ≡ old.pages
    pub to_hinted : to ≡ tries_hinted hint (word_of old.pages hint)

  -- which moves there are from a point
  reading-moves : {j : ℕ} {asked : Option ℕ} {e : Event T} {answer : Seen}
      {pages : List (WorldPageState T)} {to : Point T} → OwnMoves (Reading j asked) e answer pages to
      → (pages ≡ old.pages) × (to ≡ tries j (word_of old.pages j) asked)
  reading-moves (Reads k other) = (refl, refl)

  link-moves : {j : ℕ} {asked : Option ℕ} {e : Event T} {answer : Seen}
      {pages : List (WorldPageState T)} {to : Point T} → OwnMoves (AtLink j asked) e answer pages to
      → LeavesLink j asked answer pages to ⊎ ReadsHint j asked e answer pages to
  link-moves (MeetsLimit k other limit) = inl (IsLimited (limit-is old.limit (k + 1) limit) refl)
  link-moves (FindsNoNext k other below last) =
      inl (ToMaking last
      (λ limited. absurd (false≢true (sym below ∙ is-limit old.limit (k + 1) limited))) refl refl)
  link-moves (GoesNext k other more) = inl (ToNext more refl refl)
  link-moves (ReadsByHint hint further linked) = inr (record {
    first_link = refl;
    unasked = refl;
    asks = λ none. cc;
    hint = hint;
    linked = linked;
    same = refl;
    to_hinted = refl;
  })

  making-moves : {k : ℕ} {e : Event T} {answer : Seen}
      {pages : List (WorldPageState T)} {to : Point T} → BringsPage e answer → OwnMoves (Making k) e answer pages to
      → (values : List T) × (pages ≡ old.pages) × (to ≡ Linking k values)
  making-moves brings (MakesPage j values) = (values, refl, refl)
  making-moves brings (LacksMemory j) = absurd (cc)
  making-moves brings (LacksValues j) = absurd (cc)

  linking-moves : {k : ℕ} {values : List T} {e : Event T} {answer : Seen}
      {pages : List (WorldPageState T)} {to : Point T} → length old.pages ≡ k + 1
      → OwnMoves (Linking k values) e answer pages to
      → (pages ≡ old.pages ++ linked_page values ∷ []) × (to ≡ Reading (k + 1) None)
  linking-moves last (LinksPage j own whole is) = (refl, refl)
  linking-moves last (LosesLink j own more) = absurd (more last)

  clearing-moves : {k mask : ℕ} {asked : Option ℕ} {e : Event T} {answer : Seen}
      {pages : List (WorldPageState T)} {to : Point T} → has_bit (word_of old.pages k) (trailing_zeros w32 mask) ≡ true
      → OwnMoves (Clearing k mask asked) e answer pages to → to ≡ Taken k (trailing_zeros w32 mask)
  clearing-moves set (Clears j bits other is) = refl
  clearing-moves set (LosesBit j bits other clear) = absurd (false≢true (sym clear ∙ set))

  hinted-moves : {hint mask : ℕ} {e : Event T} {answer : Seen}
      {pages : List (WorldPageState T)} {to : Point T}
      → has_bit (word_of old.pages hint) (trailing_zeros w32 mask) ≡ true
      → OwnMoves (ClearingHinted hint mask) e answer pages to → to ≡ Taken hint (trailing_zeros w32 mask)
  hinted-moves set (ClearsByHint j bits is) = refl
  hinted-moves set (LosesBitByHint j bits clear) = absurd (false≢true (sym clear ∙ set))

  taken-moves : {k id : ℕ} {e : Event T} {answer : Seen}
      {pages : List (WorldPageState T)} {to : Point T} → OwnMoves (Taken k id) e answer pages to
      → (answer ≡ seen.MovedOut a) × IsSome (held_by (Some to))
  taken-moves (TakesValue j i value lies) = (refl, refl)

-- where an agent goes next that read a word
module _ {T : Type 0} where
  pub tries-none : (j word : ℕ) (asked : Option ℕ) → word ≡ 0 → tries {T = T} j word asked ≡ AtLink j asked
  tries-none j word asked none = rw (eq-eqb word 0 none) refl

  pub tries-some : (j word : ℕ) (asked : Option ℕ) → 0 < word → tries {T = T} j word asked ≡ Clearing j word asked
  tries-some j word asked some = rw (ne_eqb word 0 (λ is. absurd (omega arith))) refl

  pub tries_hinted-none : (hint word : ℕ) → word ≡ 0 → tries_hinted {T = T} hint word ≡ AtLink 0 (Some hint)
  tries_hinted-none hint word none = rw (eq-eqb word 0 none) refl

  pub tries_hinted-some : (hint word : ℕ) → 0 < word → tries_hinted {T = T} hint word ≡ ClearingHinted hint word
  tries_hinted-some hint word some = rw (ne_eqb word 0 (λ is. absurd (omega arith))) refl

module _ {T : Type 0} {old : WorldState T} {a : ℕ} {e : Event T} {answer : Seen} {new : WorldState T}
    (solo : IsSoloStep old a e answer new) where
  -- the move of the agent, from a point
  pub record OwnMove (from : Point T) : Type 0 where
    pub pages : List (WorldPageState T)
    pub to : Point T
    pub moves : OwnMoves old a from e answer pages to
    pub left : new ≡ moved old pages a to
    pub there : slice_get new.agents a ≡ Some to

  own-happens : (from : Point T) → slice_get old.agents a ≡ Some from
      → Happens (λ before kept. ⊤) old e (point_of old e) answer new → OwnMove from
  own-happens from at (NotEnabled none is same) =
      absurd (let idle : is_idle answer ≡ true = ap is_idle is in let busy = solo.busy in cc)
  own-happens from at (NoMemory may is same) =
      absurd (let idle : is_idle answer ≡ true = ap is_idle is in let busy = solo.busy in cc)
  own-happens from at (Begins is row) =
      absurd (let none : event_agent e ≡ None = ap event_agent is in let own = solo.own in cc)
  own-happens from at (Goes b began to pages at_b moves left) =
      let agent : b ≡ a = cc (move-named moves, solo.own) in
      let point : began ≡ from = cc in
      let is : new ≡ moved old pages a to = left ∙ ap (λ c. moved old pages c to) agent in
      record {
        pages = pages;
        to = to;
        moves = rw (agent, point) at moves;
        left = is;
        there = ap (λ w. slice_get w.agents a) is
            ∙ slice_get-set_same old.agents a to (slice_get_within old.agents a from at);
      }

  own-move : {from : Point T} → slice_get old.agents a ≡ Some from → OwnMove from
  own-move {from = from} at =
      own-happens from at (reached-happens (λ before kept. ⊤) old e answer new solo.reached solo.step)

  -- what a step leaves of the pages and of the limit that only moves the agent
  pub record OnlyMoves (point : Point T) : Type 0 where
    pub there : slice_get new.agents a ≡ Some point
    pub pages : new.pages ≡ old.pages
    pub limit : new.limit ≡ old.limit

  only-moves : {from point : Point T} (own : OwnMove from) → own.pages ≡ old.pages → own.to ≡ point → OnlyMoves point
  only-moves own same is = record {
    there = own.there ∙ ap Some is;
    pages = ap (λ w. w.pages) own.left ∙ same;
    limit = ap (λ w. w.limit) own.left;
  }

  -- an agent reads a word
  pub reads-word : (j word : ℕ) (asked : Option ℕ) → slice_get old.agents a ≡ Some (Reading j asked)
      → word_of old.pages j ≡ word
      → OnlyMoves (tries j word asked)
  reads-word j word asked at is =
      let own = own-move at in
      let (same, to) = reading-moves old a own.moves in
      only-moves own same (to ∙ ap (λ w. tries j w asked) is)

  -- an agent at the first link asked a page by a hint, which it hadn't done before
  pub record AsksByHint (j : ℕ) (asked : Option ℕ) : Type 0 where
    pub first_link : j ≡ 0
    pub unasked : asked ≡ None
    pub asks : AsksNoHint e answer → ⊥
    pub hint : ℕ
    pub linked : hint < length old.pages
    pub moves : OnlyMoves (tries_hinted hint (word_of old.pages hint))

  -- an agent left a link along the chain
  pub record LeftLink (j : ℕ) (asked : Option ℕ) : Type 0 where
    pub own : OwnMove (AtLink j asked)
    pub leaves : LeavesLink old a j asked answer own.pages own.to

  -- an agent leaves a link
  pub leaves-link : (j : ℕ) (asked : Option ℕ) → slice_get old.agents a ≡ Some (AtLink j asked)
      → LeftLink j asked ⊎ AsksByHint j asked
  leaves-link j asked at =
      let own = own-move at in
      elim (link-moves old a own.moves) [
        | inl leaves ↦ inl (record { own = own; leaves = leaves })
        | inr reads ↦ inr (record {
          first_link = reads.first_link;
          unasked = reads.unasked;
          asks = reads.asks;
          hint = reads.hint;
          linked = reads.linked;
          moves = only-moves own reads.same reads.to_hinted;
        })
      ]

  -- without a hint it follows the chain
  pub follows-link : AsksNoHint e answer → (j : ℕ) → slice_get old.agents a ≡ Some (AtLink j None) → LeftLink j None
  follows-link unhinted j at = elim (leaves-link j None at) [
    | inl left ↦ left
    | inr by_hint ↦ absurd (by_hint.asks unhinted)
  ]

  -- an agent goes on to a page that is linked
  pub goes-on : (j : ℕ) (asked : Option ℕ) → slice_get old.agents a ≡ Some (AtLink j asked) → j + 1 < length old.pages
      → LeftLink j asked → OnlyMoves (comes_to (j + 1) asked)
  goes-on j asked at more left = elim left.leaves [
    | IsLimited limited told ↦
        let allowed = (reached-agrees old solo.reached).agrees.allowed in
        absurd (no-limit old.limit (length old.pages) (j + 1) more allowed limited)
    | ToMaking last unlimited same to ↦ absurd (omega arith)
    | ToNext other same to ↦ only-moves left.own same to
  ]

  -- an agent at the last link is refused at the limit, or makes a page
  pub leaves-last : (j : ℕ) (asked : Option ℕ) → slice_get old.agents a ≡ Some (AtLink j asked)
      → length old.pages ≡ j + 1 → LeftLink j asked
      → ((old.limit ≡ Some (length old.pages)) × (answer ≡ seen.Refused a Limit))
      ⊎ ((old.limit ≢ Some (length old.pages)) × OnlyMoves (Making j))
  leaves-last j asked at last left = elim left.leaves [
    | IsLimited limited told ↦ inl (limited ∙ ap Some (sym last), told)
    | ToMaking is unlimited same to ↦
        inr (λ limited. unlimited (limited ∙ ap Some last), only-moves left.own same to)
    | ToNext other same to ↦ absurd (other last)
  ]

  -- an agent has the values of a page of its own
  pub makes-page : (k : ℕ) → slice_get old.agents a ≡ Some (Making k) → BringsPage e answer
      → (values : List T) × OnlyMoves (Linking k values)
  makes-page k at brings =
      let own = own-move at in
      let (values, same, to) = making-moves old a brings own.moves in
      (values, only-moves own same to)

  -- an agent links its page behind the last one
  pub links-page : (k : ℕ) (values : List T) → slice_get old.agents a ≡ Some (Linking k values)
      → length old.pages ≡ k + 1
      → (slice_get new.agents a ≡ Some (Reading (k + 1) None)) × (new.pages ≡ old.pages ++ linked_page values ∷ [])
  links-page k values at last =
      let own = own-move at in
      let (longer, to) = linking-moves old a last own.moves in
      (own.there ∙ ap Some to, ap (λ w. w.pages) own.left ∙ longer)

  -- an agent clears a bit of a word that is still as it read it
  still-set : (k word : ℕ) → word_of old.pages k ≡ word → 0 < word → word < 2 ^ 32
      → has_bit (word_of old.pages k) (trailing_zeros w32 word) ≡ true
  still-set k word now some fits = ap (λ w. has_bit w (trailing_zeros w32 word)) now ∙ has_bit-lowest word some fits

  pub clears-lowest : (k word : ℕ) (asked : Option ℕ) → slice_get old.agents a ≡ Some (Clearing k word asked)
      → word_of old.pages k ≡ word
      → slice_get new.agents a ≡ Some (Taken k (trailing_zeros w32 word))
  clears-lowest k word asked at now =
      let bits = (known-reached old solo.reached a (Clearing k word asked) at).1 in
      let own = own-move at in
      own.there ∙ ap Some (clearing-moves old a (still-set k word now bits.some bits.in_word) own.moves)

  -- so it does on a page that a hint named
  pub clears-hinted : (hint word : ℕ) → slice_get old.agents a ≡ Some (ClearingHinted hint word)
      → word_of old.pages hint ≡ word
      → slice_get new.agents a ≡ Some (Taken hint (trailing_zeros w32 word))
  clears-hinted hint word at now =
      let bits = (known-reached old solo.reached a (ClearingHinted hint word) at).bits in
      let own = own-move at in
      own.there ∙ ap Some (hinted-moves old a (still-set hint word now bits.some bits.in_word) own.moves)

  -- an agent moves the value out of the place whose bit it cleared
  pub moves-out : (k id : ℕ) → slice_get old.agents a ≡ Some (Taken k id) → (answer ≡ seen.MovedOut a)
      × IsSome (held_by (slice_get new.agents a))
  moves-out k id at =
      let own = own-move at in
      let (told, has) = taken-moves old a own.moves in
      (told, rw own.there has)

module _ {T : Type 0} where
  -- a step is counted, and an event by which nothing happened isn't
  pub own_steps-busy : (log : Log T) (a : ℕ) (e : Event T) (answer : Seen) → event_agent e ≡ Some a
      → is_idle answer ≡ false
      → own_steps ((e, answer) ∷ log) a ≡ own_steps log a + 1
  own_steps-busy log a e answer own busy =
      ap (λ i. if (if i then false else option_eq nat_eq (event_agent e) (Some a))
      then own_steps log a + 1 else own_steps log a) busy
      ∙ ap (λ b. if option_eq nat_eq b (Some a) then own_steps log a + 1 else own_steps log a) own
      ∙ ap (λ b. if b then own_steps log a + 1 else own_steps log a) (eq-eqb a a refl)

  own_steps-idle : (log : Log T) (a : ℕ) (e : Event T) (answer : Seen) → is_idle answer ≡ true
      → own_steps ((e, answer) ∷ log) a ≡ own_steps log a
  own_steps-idle log a e answer idle =
      ap (λ i. if (if i then false else option_eq nat_eq (event_agent e) (Some a))
      then own_steps log a + 1 else own_steps log a) idle

module _ {T : Type 0} (Leaves : T → T → Type 0) (old : WorldState T) (reached : IsReachable old) (a : ℕ)
    (P : ℕ → Log T → WorldState T → Type 0) where
  -- what holds at first, and goes on to hold at each step, holds where an agent ran solo, by the
  -- count of its steps
  pub ran-alone : P 0 [] old
      → ((entry : Event T × Seen) (n : ℕ) (log : Log T) (world : WorldState T) → P n log world
      → P n (entry ∷ log) world)
      →
      ((e : Event T) (answer : Seen) (n : ℕ) (log : Log T) (between new : WorldState T)
      → IsSoloStep between a e answer new
      → P n log between → P (n + 1) ((e, answer) ∷ log) new)
      → (log : Log T) (new : WorldState T) → Executes Leaves old log new → EachEvent (IsOwnEvent a) log
      → P (own_steps log a) log new
  ran-alone first idle busy [] new same alone = rw same first
  ran-alone first idle busy ((e, answer) ∷ log) new (between, ran, step, exact) (own, alone) =
      let before = ran-alone first idle busy log between ran alone in
      let entry : Event T × Seen = (e, answer) in
      elim (cases_Bool (is_idle answer)) [
        | inl is ↦
            rw (exact.unchanged (idle-not_enabled answer is own.memory), own_steps-idle log a e answer is)
            (idle entry (own_steps log a) log between before)
        | inr is ↦
            let solo : IsSoloStep between a e answer new = record {
              own = own.own;
              busy = is;
              reached = ran-reached Leaves old reached log between ran;
              step = any-step Leaves between e answer new step;
            } in
            rw (own_steps-busy log a e answer own.own is)
            (busy e answer (own_steps log a) log between new solo before)
      ]
