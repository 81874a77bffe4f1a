-- Where an agent that runs solo comes with each of its steps.
use Rattle.std.proofs.Common.{◌≡◌, ◌≢◌, inl, inr, ℕ, ◌+◌, ◌*◌, ◌<◌, ◌≤◌, true, false, Option, Some, None, List, []}
use Rattle.std.proofs.Common.{nat_eq, IsSome}
use Rattle.std.proofs.Common.{◌∷◌, ◌++◌, length, slice_get, refl, ap, sym, ◌∙◌, arith}
use Rattle.std.proofs.lemmas.Bool.{cases_eq, cases_lt, cases_Bool}
use Rattle.std.specs.Option.{option_eq}
use Rattle.pool_parts.specs.declared.pull_error.PullError.TheVariants.{Limit}
use Rattle.pool_world.specs.declared.interleave.event.Event.{Event}
use Rattle.pool_world.specs.declared.interleave.event.Seen.{Seen}
use Rattle.pool_world.specs.declared.interleave.event.Seen.TheVariants as seen
use Rattle.pool_world.specs.declared.interleave.point.Point.{Point}
use Rattle.pool_world.specs.declared.interleave.point.Point.TheVariants.{Reading, AtLink, ClearingHinted}
use Rattle.pool_world.specs.World.State.{WorldPageState, WorldState}
use Rattle.pool_world.specs.World.Machine.{held_by, linked_page, comes_to, word_of}
use Rattle.pool_world.specs.World.Trace.{Log}
use Rattle.pool_world.specs.World.Headline.{Executes, IsReachable}
use Rattle.pool_world.specs.World.OwnSteps.{own_steps}
use Rattle.pool_world.specs.World.Inside.SoloWalk.{ComesBy, AskedInVain, IsWay, IsOnward, AtMaking, AtLinking}
use Rattle.pool_world.specs.World.Inside.SoloWalk.{AtWord, AtBits, AtHinted, HasTaken, SoloWalk, AtFull, AtChain}
use Rattle.pool_world.specs.World.Inside.SoloWalk.{Onward, HasMoved, IsRefused, IsUnhinted}
use Rattle.pool_world.specs.World.Solo.{IsOwnEvent, EachEvent, AsksNoHint, BringsPage, IsAnswered}
use Rattle.pool_world.specs.World.Solo.{IsFirstFree, AllFull, RunsSolo, RunsSoloByHint}
use Rattle.pool_world.proofs.Places.{slice_get-append_last}
use Rattle.pool_world.proofs.World.LinkSteps.{asked-is}
use Rattle.pool_world.proofs.World.SoloSteps.{IsSoloStep, LeftLink, AsksByHint, tries-none, tries-some}
use Rattle.pool_world.proofs.World.SoloSteps.{tries_hinted-none, tries_hinted-some, reads-word, leaves-link}
use Rattle.pool_world.proofs.World.SoloSteps.{goes-on, leaves-last, makes-page, links-page, clears-lowest}
use Rattle.pool_world.proofs.World.SoloSteps.{clears-hinted, moves-out, ran-alone}
use Rattle.pool_world.proofs.World.AbstractPool.{word-at}

-- by one step more
later : {extra count n next : ℕ} → ComesBy extra count n → count + 1 ≡ next → ComesBy extra next (n + 1)
later comes is = let most = comes.most in record {
  most = omega arith;
  exact = λ none. let same = comes.exact none in omega arith;
}

-- by a hint, which may cost a step
by-hint : {extra count n : ℕ} → extra ≢ 0 → n ≤ count + extra → ComesBy extra count n
by-hint may most = record { most = most; exact = λ none. absurd (may none) }

module _ {T : Type 0} where
  -- the page that was linked is the first with a free number
  pub linked-free : (pages : List (WorldPageState T)) (values : List T)
      → 0 < word_of (pages ++ linked_page values ∷ []) (length pages)
  linked-free pages values =
      let word : word_of (pages ++ linked_page values ∷ [])
      (length pages) ≡ 4294967295 =
      word-at _ (length pages) _ (slice_get-append_last pages (linked_page values)) in omega arith

  comes-past : (k : ℕ) (asked : Option ℕ) → option_eq nat_eq asked (Some k) ≡ true
      → comes_to {T = T} k asked ≡ AtLink k asked
  comes-past k asked is = rw is refl

  comes-first : (k : ℕ) (asked : Option ℕ) → option_eq nat_eq asked (Some k) ≡ false
      → comes_to {T = T} k asked ≡ Reading k asked
  comes-first k asked not = rw not refl

  -- an entry more, with which nothing changes
  walk-later : {extra : ℕ} {pages : List (WorldPageState T)} {limit : Option ℕ} {k c n a : ℕ} (entry : Event T × Seen)
      {log : Log T} {world : WorldState T} {lookup : Option (Point T)}
      → SoloWalk extra pages limit k c n a log world lookup
      → SoloWalk extra pages limit k c n a (entry ∷ log) world lookup
  walk-later entry (AtFull j asked below comes early vain at same bound) =
      AtFull j asked below comes early vain at same bound
  walk-later entry (AtChain j asked below comes early vain at same bound) =
      AtChain j asked below comes early vain at same bound
  walk-later entry (Onward allowed onward) = Onward allowed onward
  walk-later entry (HasMoved allowed past told holds) = HasMoved allowed past (inr told) holds
  walk-later entry (IsRefused last limited told) = IsRefused last limited (inr told)

module _ {T : Type 0} {old : WorldState T} {a : ℕ} {e : Event T} {answer : Seen} {new : WorldState T}
    (solo : IsSoloStep old a e answer new) (extra : ℕ) (unhinted : extra ≡ 0 → AsksNoHint e answer)
    (pages : List (WorldPageState T)) (limit : Option ℕ) (k c n : ℕ) (so_far : Log T) (way : IsWay pages k c)
    (brings : length pages ≡ k → limit ≢ Some (length pages) → BringsPage e answer) where
  abbrev Next : Type 0
  Next = SoloWalk extra pages limit k c (n + 1) a ((e, answer) ∷ so_far) new (slice_get new.agents a)

  -- a page of the chain that was asked in vain isn't page k
  not-goal : (asked : Option ℕ) → AskedInVain extra pages asked → (j : ℕ) → j < length pages → j ≤ k
      → option_eq nat_eq asked (Some j) ≡ true → j < k
  not-goal asked vain j linked most is = elim way.goal [
    | inl (there, none, free) ↦
        let full = vain.full j (asked-is asked j is) in
        elim (cases_eq j k) [
          | inl same ↦ let none : word_of pages k ≡ 0 = ap (word_of pages) (sym same) ∙ full in absurd (omega arith)
          | inr other ↦ omega arith
        ]
    | inr (last, two) ↦ omega arith
  ]

  -- over a link of the chain
  over-link : (j : ℕ) (asked : Option ℕ) → j < k → ComesBy extra (2 * j + 1) n → AskedInVain extra pages asked
      → slice_get old.agents a ≡ Some (AtLink j asked) → old.pages ≡ pages → old.limit ≡ limit
      → LeftLink solo j asked → Next
  over-link j asked below comes vain at same bound left =
      let count : length old.pages ≡ length pages = ap length same in
      let goal = way.goal in
      elim (cases_lt (j + 1) (length pages)) [
        | inl more ↦
            let gone = goes-on solo j asked at (omega arith) left in
            elim (cases_Bool (option_eq nat_eq asked (Some (j + 1)))) [
              | inl is ↦
                  AtChain (j + 1) asked (not-goal asked vain (j + 1) more (omega arith) is)
                  (by-hint
                  (λ none. absurd (let asks = asked-is asked (j + 1) is in let unasked = vain.unasked none in cc))
                  (let most = comes.most in omega arith))
                  (λ first. absurd (omega arith)) vain (gone.there ∙ ap Some (comes-past (j + 1) asked is))
                  (gone.pages ∙ same) (gone.limit ∙ bound)
              | inr not ↦
                  let there = gone.there ∙ ap Some (comes-first (j + 1) asked not) in
                  elim (cases_lt (j + 1) k) [
                    | inl further ↦
                        AtFull (j + 1) asked further (later comes (omega arith))
                        (λ first. absurd (omega arith)) vain there (gone.pages ∙ same) (gone.limit ∙ bound)
                    | inr past ↦
                        let here : j + 1 ≡ k = omega arith in
                        elim goal [
                          | inl (linked, none, free) ↦
                              Onward (λ last. absurd (omega arith))
                              (AtWord pages asked free
                              (later comes (omega arith))
                              (there ∙ ap (λ m. Some (Reading m asked)) here) (gone.pages ∙ same))
                          | inr (last, two) ↦ absurd (omega arith)
                        ]
                  ]
            ]
        | inr end ↦ elim goal [
          | inl (linked, none, free) ↦ absurd (omega arith)
          | inr (last, two) ↦ elim (leaves-last solo j asked at (omega arith) left) [
            | inl (limited, told) ↦ IsRefused last (sym bound ∙ limited ∙ ap Some count) (inl told)
            | inr (unlimited, made) ↦
                Onward (λ is limited. unlimited (bound ∙ limited ∙ ap Some (sym count)))
                (AtMaking j (omega arith) last (later comes (omega arith)) made.there
                (made.pages ∙ same))
          ]
        ]
      ]

  -- to the page that a hint names
  to-hinted : (j : ℕ) (asked : Option ℕ) → j < k → (j ≡ 0 → asked ≡ None → n ≤ 1) → old.pages ≡ pages
      → old.limit ≡ limit → AsksByHint solo j asked → Next
  to-hinted j asked below early same bound asks =
      let hint = asks.hint in
      let linked = asks.linked in
      let few = early asks.first_link asks.unasked in
      let may : extra ≢ 0 = λ none. asks.asks (unhinted none) in
      let now : word_of old.pages hint ≡ word_of pages hint = ap (λ all. word_of all hint) same in
      elim (cases_eq (word_of pages hint) 0) [
        | inl none ↦
            AtChain 0 (Some hint) (omega arith) (by-hint may (omega arith))
            (λ first unasked. absurd (cc))
            (record {
              full = λ other is. let this : hint ≡ other = cc in ap (word_of pages) (sym this) ∙ none;
              unasked = λ zero. absurd (may zero);
            })
            (asks.moves.there ∙ ap Some (tries_hinted-none hint (word_of old.pages hint) (now ∙ none)))
            (asks.moves.pages ∙ same) (asks.moves.limit ∙ bound)
        | inr some ↦
            let count : length old.pages ≡ length pages = ap length same in
            Onward (λ last. absurd (some (way.full hint (omega arith))))
            (AtHinted hint (by-hint may (omega arith))
            (asks.moves.there ∙ ap Some (tries_hinted-some hint (word_of old.pages hint) (omega arith))
            ∙ ap (λ word. Some (ClearingHinted hint word)) now)
            (asks.moves.pages ∙ same))
      ]

  onward-step : (length pages ≡ k → limit ≢ Some (length pages))
      → IsOnward extra pages k c n old (slice_get old.agents a) → Next
  onward-step allowed (AtMaking m count last comes at same) =
      let (values, made) = makes-page solo m at (brings last (allowed last)) in
      Onward allowed (AtLinking m values count last (later comes refl) made.there
      (made.pages ∙ same))
  onward-step allowed (AtLinking m values count last comes at same) =
      let here : length old.pages ≡ length pages = ap length same in
      let (there, linked) = links-page solo m values at (omega arith) in
      let all = pages ++ linked_page values ∷ [] in
      let is : m + 1 ≡ k = omega arith in
      let free : 0 < word_of all k = rw last at (linked-free pages values) in
      elim way.goal [
        | inl (further, none, some) ↦ absurd (omega arith)
        | inr (end, two) ↦
            Onward allowed (AtWord all None free (later comes (omega arith))
            (there ∙ ap (λ j. Some (Reading j None)) is)
            (linked ∙ ap (λ every. every ++ linked_page values ∷ []) same))
      ]
  onward-step allowed (AtWord all asked free comes at same) =
      let read = reads-word solo k (word_of all k) asked at (ap (λ every. word_of every k) same) in
      Onward allowed (AtBits all asked (later comes refl)
      (read.there ∙ ap Some (tries-some k (word_of all k) asked free)) (read.pages ∙ same))
  onward-step allowed (AtBits all asked comes at same) =
      Onward allowed (HasTaken k _ (later comes (omega arith))
      (clears-lowest solo k (word_of all k) asked at (ap (λ every. word_of every k) same)))
  onward-step allowed (AtHinted hint comes at same) =
      Onward allowed (HasTaken hint _ (later comes (omega arith))
      (clears-hinted solo hint (word_of pages hint) at (ap (λ every. word_of every hint) same)))
  onward-step allowed (HasTaken j id comes at) =
      let taken = moves-out solo j id at in
      HasMoved allowed (λ none. let is = comes.exact none in omega arith) (inl taken.0) (λ none now. taken.1)

  walk-step : SoloWalk extra pages limit k c n a so_far old (slice_get old.agents a) → Next
  walk-step (AtFull j asked below comes early vain at same bound) =
      let word = word_of pages j in
      let read = reads-word solo j word asked at (ap (λ all. word_of all j) same) in
      AtChain j asked below (later comes refl)
      (λ first unasked. let none = early first in omega arith) vain
      (read.there ∙ ap Some (tries-none j word asked (way.full j below))) (read.pages ∙ same) (read.limit ∙ bound)
  walk-step (AtChain j asked below comes early vain at same bound) = elim (leaves-link solo j asked at) [
    | inl left ↦ over-link j asked below comes vain at same bound left
    | inr asks ↦ to-hinted j asked below early same bound asks
  ]
  walk-step (Onward allowed onward) = onward-step allowed onward
  walk-step (HasMoved allowed past told holds) =
      HasMoved allowed (λ none. let most = past none in omega arith) (inr told)
      (λ none now. let most = past none in absurd (omega arith))
  walk-step (IsRefused last limited told) = IsRefused last limited (inr told)

-- ---- what an agent that runs solo comes to
module _ {T : Type 0} {extra : ℕ} {pages : List (WorldPageState T)} {k c n : ℕ} where
  onward-most : {world : WorldState T} {lookup : Option (Point T)} → IsOnward extra pages k c n world lookup
      → IsWay pages k c → n ≤ c + 2 * k + 2 + extra
  onward-most (AtMaking m count last comes at same) way = elim way.goal [
    | inl (further, none, free) ↦ absurd (omega arith)
    | inr (end, two) ↦ let most = comes.most in omega arith
  ]
  onward-most (AtLinking m values count last comes at same) way = elim way.goal [
    | inl (further, none, free) ↦ absurd (omega arith)
    | inr (end, two) ↦ let most = comes.most in omega arith
  ]
  onward-most (AtWord all asked free comes at same) way = let most = comes.most in omega arith
  onward-most (AtBits all asked comes at same) way = let most = comes.most in omega arith
  onward-most (AtHinted hint comes at same) way = let most = comes.most in omega arith
  onward-most (HasTaken j id comes at) way = let most = comes.most in omega arith

  module _ {limit : Option ℕ} {a : ℕ} {log : Log T} {world : WorldState T} {lookup : Option (Point T)} where
    walk-moved : IsWay pages k c → (length pages ≡ k → limit ≢ Some (length pages))
        → SoloWalk extra pages limit k c n a log world lookup → c + 2 * k + 3 + extra ≤ n
        → IsAnswered log (seen.MovedOut a) × (extra ≡ 0 → n ≡ c + 2 * k + 3 → IsSome (held_by lookup))
    walk-moved way allowed (AtFull j asked below comes early vain at same bound) now =
        let most = comes.most in absurd (omega arith)
    walk-moved way allowed (AtChain j asked below comes early vain at same bound) now =
        let most = comes.most in absurd (omega arith)
    walk-moved way allowed (Onward may onward) now = let most = onward-most onward way in absurd (omega arith)
    walk-moved way allowed (HasMoved may past told holds) now = (told, holds)
    walk-moved way allowed (IsRefused last limited told) now = absurd (allowed last limited)

    walk-refused : length pages ≡ k → limit ≡ Some (length pages)
        → SoloWalk extra pages limit k c n a log world lookup → 2 * k + extra ≤ n
        → IsAnswered log (seen.Refused a Limit)
    walk-refused last limited (AtFull j asked below comes early vain at same bound) now =
        let most = comes.most in absurd (omega arith)
    walk-refused last limited (AtChain j asked below comes early vain at same bound) now =
        let most = comes.most in absurd (omega arith)
    walk-refused last limited (Onward may onward) now = absurd (may last limited)
    walk-refused last limited (HasMoved may past told holds) now = absurd (may last limited)
    walk-refused last limited (IsRefused end same told) now = told

module _ {T : Type 0} where
  pub unhinted-is : (a : ℕ) (log : Log T) → EachEvent (IsOwnEvent a) log → EachEvent AsksNoHint log → IsUnhinted a log
  unhinted-is a [] alone none = tt
  unhinted-is a ((e, answer) ∷ log) (own, alone) (unhinted, none) = ((own, unhinted), unhinted-is a log alone none)

  -- the ways to a page that has a free number, and behind the last page
  way-free : (pages : List (WorldPageState T)) (k : ℕ) → IsFirstFree pages k → IsWay pages k 0
  way-free pages k free = record {
    some = let linked = free.linked in omega arith;
    full = free.full;
    goal = inl (free.linked, refl, free.free);
  }

  way-out : (pages : List (WorldPageState T)) → AllFull pages → IsWay pages (length pages) 2
  way-out pages all = record { some = all.some; full = all.full; goal = inr (refl, refl) }

module _ {T : Type 0} (Leaves : T → T → Type 0) (old : WorldState T) (reached : IsReachable old) (a : ℕ)
    (at : slice_get old.agents a ≡ Some (Reading 0 None))
    (log : Log T) (new : WorldState T) (ran : Executes Leaves old log new) (alone : EachEvent (IsOwnEvent a) log) where
  ran-walk : (extra k c : ℕ) → IsWay old.pages k c → (extra ≡ 0 → EachEvent AsksNoHint log)
      → (length old.pages ≡ k → old.limit ≢ Some (length old.pages) → EachEvent BringsPage log)
      → SoloWalk extra old.pages old.limit k c (own_steps log a) a log new (slice_get new.agents a)
  ran-walk extra k c way =
      let P : ℕ → Log T → WorldState T → Type 0 = λ n log world. (extra ≡ 0 → EachEvent AsksNoHint log)
      → (length old.pages ≡ k → old.limit ≢ Some (length old.pages) → EachEvent BringsPage log)
      → SoloWalk extra old.pages old.limit k c n a log world (slice_get world.agents a) in
      let vain : AskedInVain extra old.pages None = record { full = λ hint is. absurd (cc); unasked = λ none. refl } in
      let begins : P 0 [] old = λ unhinted brings. elim (cases_eq k 0) [
        | inl first ↦ elim way.goal [
          | inl (there, none, free) ↦
              Onward (λ last. absurd (omega arith)) (AtWord old.pages None free (record {
                most = omega arith;
                exact = λ zero. omega arith;
              }) (at ∙ ap (λ j. Some (Reading j None)) (sym first)) refl)
          | inr (last, two) ↦ let some = way.some in absurd (omega arith)
        ]
        | inr further ↦ AtFull 0 None (omega arith) (record { most = omega arith; exact = λ zero. refl }) (λ zero. refl)
            vain at refl refl
      ] in
      ran-alone Leaves old reached a P begins
      (λ entry n log world walk unhinted brings. walk-later entry (walk (λ none. (unhinted none).1)
      (λ last other. (brings last other).1)))
      (λ e answer n log between new solo walk unhinted brings. walk-step solo extra (λ none. (unhinted none).0)
      old.pages old.limit k c n log way (λ last other. (brings last other).0)
      (walk (λ none. (unhinted none).1) (λ last other. (brings last other).1)))
      log new ran alone

  -- to a page with a free number; behind the last page, where a page may be linked, and where none
  -- may
  ran-takes : (extra k : ℕ) → (extra ≡ 0 → EachEvent AsksNoHint log) → IsFirstFree old.pages k
      → 2 * k + 3 + extra ≤ own_steps log a
      → IsAnswered log (seen.MovedOut a)
      × (extra ≡ 0 → own_steps log a ≡ 2 * k + 3 → IsSome (held_by (slice_get new.agents a)))
  ran-takes extra k unhinted free many =
      let linked = free.linked in
      let way = way-free old.pages k free in
      let moved = walk-moved way (λ last. absurd (omega arith))
      (ran-walk extra k 0 way unhinted (λ last. absurd (omega arith))) (omega arith) in
      (moved.0, λ none now. moved.1 none (omega arith))

  ran-links : (extra : ℕ) → (extra ≡ 0 → EachEvent AsksNoHint log) → AllFull old.pages
      → old.limit ≢ Some (length old.pages) → EachEvent BringsPage log
      → 2 * length old.pages + 5 + extra ≤ own_steps log a
      → IsAnswered log (seen.MovedOut a)
      × (extra ≡ 0 → own_steps log a ≡ 2 * length old.pages + 5 → IsSome (held_by (slice_get new.agents a)))
  ran-links extra unhinted all unlimited brings many =
      let way = way-out old.pages all in
      let moved = walk-moved way (λ last. unlimited)
      (ran-walk extra (length old.pages) 2 way unhinted (λ last other. brings)) (omega arith) in
      (moved.0, λ none now. moved.1 none (omega arith))

  ran-refused : (extra : ℕ) → (extra ≡ 0 → EachEvent AsksNoHint log) → AllFull old.pages
      → old.limit ≡ Some (length old.pages) → 2 * length old.pages + extra ≤ own_steps log a
      → IsAnswered log (seen.Refused a Limit)
  ran-refused extra unhinted all limited many =
      let way = way-out old.pages all in
      walk-refused refl limited
      (ran-walk extra (length old.pages) 2 way unhinted (λ last other. absurd (other limited))) many

  pub ran-solo : EachEvent AsksNoHint log → RunsSolo old log new a
  ran-solo none = record {
    takes = λ k free. record {
      answered = λ many. (ran-takes 0 k (λ zero. none) free (omega arith)).0;
      held = λ now. (ran-takes 0 k (λ zero. none) free (omega arith)).1 refl now;
    };
    links = λ all unlimited brings. record {
      answered = λ many. (ran-links 0 (λ zero. none) all unlimited brings (omega arith)).0;
      held = λ now. (ran-links 0 (λ zero. none) all unlimited brings (omega arith)).1 refl now;
    };
    refused = λ all limited many. ran-refused 0 (λ zero. none) all limited (omega arith);
  }

  pub ran-solo_by_hint : RunsSoloByHint old log a
  ran-solo_by_hint =
      let never : ◌≡◌ {A = ℕ} 1 0 → EachEvent AsksNoHint log = λ is. absurd (omega arith) in
      record {
        takes = λ k free many. (ran-takes 1 k never free (omega arith)).0;
        links = λ all unlimited brings many. (ran-links 1 never all unlimited brings (omega arith)).0;
        refused = λ all limited many. ran-refused 1 never all limited (omega arith);
      }
