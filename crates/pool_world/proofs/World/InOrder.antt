-- Of an agent that runs solo, and whose events come as its points allow them, each event is a step.
use Rattle.std.proofs.Common.{◌≡◌, ◌≢◌, ◌⊎◌, inl, inr, ℕ, zero, suc, ◌+◌, ◌-◌, ◌<◌, Some, None, List, [], ◌∷◌, ◌++◌}
use Rattle.std.proofs.Common.{IsSome}
use Rattle.std.proofs.Common.{length, slice_get, Ok, refl, ap, sym, ◌∙◌, arith}
use Rattle.pool_parts.specs.declared.pull_error.PullError.TheVariants.{Limit}
use Rattle.std.specs.Option.{option_and_then}
use Rattle.std.proofs.lemmas.Bool.{cases_Bool}
use Rattle.std.specs.Int.{w32, trailing_zeros}
use Rattle.pool_world.specs.declared.interleave.event.Event.{Event}
use Rattle.pool_world.specs.declared.interleave.event.Event.TheVariants as event
use Rattle.pool_world.specs.declared.interleave.event.Seen.{Seen}
use Rattle.pool_world.specs.declared.interleave.event.Seen.TheVariants as seen
use Rattle.pool_world.specs.declared.interleave.point.Point.{Point}
use Rattle.pool_world.specs.declared.interleave.point.Point.TheVariants.{Reading, Clearing, AtLink, Making}
use Rattle.pool_world.specs.declared.interleave.point.Point.TheVariants.{Linking, Taken}
use Rattle.pool_world.specs.World.State.{WorldPageState, WorldState}
use Rattle.pool_world.specs.World.Machine.{held_by, Steps, point_of, word_of, linked_page}
use Rattle.pool_world.specs.World.Trace.{Log}
use Rattle.pool_world.specs.World.Headline.{Executes, IsReachable}
use Rattle.pool_world.specs.World.Enabled.{IsEnabled, IsExact}
use Rattle.pool_world.specs.World.OwnSteps.{is_idle}
use Rattle.pool_world.specs.World.Solo.{IsAnswered, IsFirstFree, AllFull, IsOwnEvent}
use Rattle.pool_world.specs.World.Solo.{StepsInOrder, passing, taking, linking, events_of}
use Rattle.pool_world.specs.World.Inside.SoloWalk.{IsUnhinted}
use Rattle.pool_world.proofs.World.Enabled.{any-step}
use Rattle.pool_world.proofs.World.Reachable.{ran-reached}
use Rattle.pool_world.proofs.World.Solo.{linked-free}
use Rattle.pool_world.proofs.World.SoloSteps.{IsSoloStep, idle-not_enabled, tries-none, tries-some, reads-word}
use Rattle.pool_world.proofs.World.SoloSteps.{follows-link, goes-on, leaves-last, makes-page, links-page}
use Rattle.pool_world.proofs.World.SoloSteps.{clears-lowest, moves-out}

module _ {T : Type 0} (Leaves : T → T → Type 0) (old : WorldState T) (reached : IsReachable old) (a : ℕ)
    (at : slice_get old.agents a ≡ Some (Reading 0 None)) where
  -- an event that is enabled at the agent's point is a step
  is-step : (is : Event T) (point : Point T) (log : Log T) (e : Event T) (answer : Seen) (between new : WorldState T)
      → Executes Leaves old log between → Steps Leaves between e answer new → IsExact between e answer new
      → IsOwnEvent a e answer → e ≡ is
      → slice_get between.agents a ≡ Some point → IsEnabled between is (Some point)
      → IsSoloStep between a e answer new
  is-step is point log e answer between new ran step exact own same here enabled =
      let there : point_of between e ≡ Some point =
      ap (λ agent. option_and_then (λ b. slice_get between.agents b) agent) own.own ∙ here in
      let row : IsEnabled between e (point_of between e) = rw (there, same) enabled in
      record {
        own = own.own;
        busy = elim (cases_Bool (is_idle answer)) [
          | inl idle ↦ absurd (exact.enabled.0 (idle-not_enabled answer idle own.memory) row)
          | inr busy ↦ busy
        ];
        reached = ran-reached Leaves old reached log between ran;
        step = any-step Leaves between e answer new step;
      }

  -- the agent is at this point, with the pages and the limit as they were
  record Comes (point : Point T) (world : WorldState T) : Type 0 where
    pub here : slice_get world.agents a ≡ Some point
    pub pages : world.pages ≡ old.pages
    pub limit : world.limit ≡ old.limit

  -- it reads a page that is full
  reads-full : (i : ℕ) (log : Log T) (f : Event T) (given : Seen) (middle between : WorldState T)
      → Executes Leaves old log middle → Steps Leaves middle f given between → IsExact middle f given between
      → IsOwnEvent a f given → f ≡ event.ReadMask a → word_of old.pages i ≡ 0
      → Comes (Reading i None) middle → Comes (AtLink i None) between
  reads-full i log f given middle between ran step exact own read full came =
      let solo = is-step (event.ReadMask a) (Reading i None) log f given middle between ran step exact own read
      came.here tt in
      let gone = reads-word solo i 0 None came.here (ap (λ all. word_of all i) came.pages ∙ full) in
      record {
        here = gone.there ∙ ap Some (tries-none i 0 None refl);
        pages = gone.pages ∙ came.pages;
        limit = gone.limit ∙ came.limit;
      }

  -- it passes so many full pages, behind which there is one more
  passed : (j : ℕ) → j < length old.pages → ((i : ℕ) → i < j → word_of old.pages i ≡ 0) → (log : Log T)
      (new : WorldState T) → Executes Leaves old log new → IsUnhinted a log → events_of log ≡ passing a j
      → Comes (Reading j None) new
  passed zero below full [] new ran alone events = record {
    here = ap (λ w. slice_get w.agents a) ran ∙ at;
    pages = ap (λ w. w.pages) ran;
    limit = ap (λ w. w.limit) ran;
  }
  passed zero below full (entry ∷ log) new ran alone events = absurd (cc)
  passed (suc i) below full [] new ran alone events = absurd (cc)
  passed (suc i) below full (entry ∷ []) new ran alone events = absurd (cc)
  passed (suc i) below full ((e, answer) ∷ ((f, given) ∷ log)) new
      (between, (middle, ran, first, first_exact), step, exact) (own, (before, alone)) events =
      let next : e ≡ event.ReadNext a = cc in
      let read : f ≡ event.ReadMask a = cc in
      let others : events_of log ≡ passing a i = cc in
      let came = passed i (omega arith) (λ j less. full j (omega arith)) log middle ran alone others in
      let left = reads-full i log f given middle between ran first first_exact before.0 read
      (full i (omega arith)) came in
      let solo = is-step (event.ReadNext a) (AtLink i None) ((f, given) ∷ log) e answer between new
      (middle, ran, first, first_exact) step exact own.0 next left.here tt in
      let count : length between.pages ≡ length old.pages = ap length left.pages in
      let gone = goes-on solo i None left.here (omega arith) (follows-link solo own.1 i left.here) in
      let is : i + 1 ≡ suc i = omega arith in
      record {
        here = gone.there ∙ ap (λ m. Some (Reading m None)) is;
        pages = gone.pages ∙ left.pages;
        limit = gone.limit ∙ left.limit;
      }

  -- it takes an item of a page with a free number
  takes-item : (pages : List (WorldPageState T)) (k : ℕ) → 0 < word_of pages k → (log : Log T)
      (d f e : Event T) (word given answer : Seen) (first second third new : WorldState T)
      → slice_get first.agents a ≡ Some (Reading k None) → first.pages ≡ pages
      → (ran : Executes Leaves old log first) (step1 : Steps Leaves first d word second)
      (exact1 : IsExact first d word second) (step2 : Steps Leaves second f given third)
      (exact2 : IsExact second f given third) → Steps Leaves third e answer new → IsExact third e answer new
      → IsOwnEvent a d word → IsOwnEvent a f given → IsOwnEvent a e answer
      → d ≡ event.ReadMask a → f ≡ event.ClearBit a → e ≡ event.MoveOut a
      → IsSome (held_by (slice_get new.agents a))
  takes-item pages k free log d f e word given answer first second third new here same ran step1 exact1 step2 exact2
      step3 exact3 own1 own2 own3 reads clears moves =
      let bits = word_of pages k in
      let solo1 = is-step (event.ReadMask a) (Reading k None) log d word first second ran step1 exact1 own1 reads
      here tt in
      let read = reads-word solo1 k bits None here (ap (λ all. word_of all k) same) in
      let there = read.there ∙ ap Some (tries-some k bits None free) in
      let ran1 : Executes Leaves old ((d, word) ∷ log) second = (first, ran, step1, exact1) in
      let solo2 = is-step (event.ClearBit a) (Clearing k bits None) ((d, word) ∷ log) f given second third ran1 step2
      exact2 own2 clears there tt in
      let taken = clears-lowest solo2 k bits None there (ap (λ all. word_of all k) (read.pages ∙ same)) in
      let solo3 = is-step (event.MoveOut a) (Taken k (trailing_zeros w32 bits)) ((f, given) ∷ ((d, word) ∷ log))
      e answer third new
      (second, ran1, step2, exact2) step3 exact3 own3 moves taken tt in
      (moves-out solo3 k (trailing_zeros w32 bits) taken).1

  -- it finds all pages full, and is at the link of the last one
  at-last : AllFull old.pages → (log : Log T) (f : Event T) (given : Seen) (middle between : WorldState T) (m : ℕ)
      → length old.pages ≡ suc m → Executes Leaves old log middle → Steps Leaves middle f given between
      → IsExact middle f given between → IsOwnEvent a f given → IsUnhinted a log → f ≡ event.ReadMask a
      → events_of log ≡ passing a m → Comes (AtLink m None) between
  at-last all log f given middle between m last ran step exact own alone read others =
      reads-full m log f given middle between ran step exact own read (all.full m (omega arith))
      (passed m (omega arith) (λ i less. all.full i (omega arith)) log middle ran alone others)

  -- it leaves the last link: it is refused at the limit, or makes a page
  left-last : AllFull old.pages → (m : ℕ) → length old.pages ≡ suc m → (log : Log T) (new : WorldState T)
      → Executes Leaves old log new → IsUnhinted a log → events_of log ≡ passing a (suc m)
      → ((old.limit ≡ Some (length old.pages)) × IsAnswered log (seen.Refused a Limit))
      ⊎ ((old.limit ≢ Some (length old.pages)) × Comes (Making m) new)
  left-last all m last [] new ran alone events = absurd (cc)
  left-last all m last (entry ∷ []) new ran alone events = absurd (cc)
  left-last all m last ((e, answer) ∷ ((f, given) ∷ log)) new
      (between, (middle, ran, first, first_exact), step, exact) (own, (before, alone)) events =
      let next : e ≡ event.ReadNext a = cc in
      let read : f ≡ event.ReadMask a = cc in
      let others : events_of log ≡ passing a m = cc in
      let left = at-last all log f given middle between m last ran first first_exact before.0 alone read others in
      let solo = is-step (event.ReadNext a) (AtLink m None) ((f, given) ∷ log) e answer between new
      (middle, ran, first, first_exact) step exact own.0 next left.here tt in
      let count : length between.pages ≡ length old.pages = ap length left.pages in
      elim (leaves-last solo m None left.here (omega arith) (follows-link solo own.1 m left.here)) [
        | inl (limited, told) ↦ inl (sym left.limit ∙ limited ∙ ap Some count, inl told)
        | inr (unlimited, made) ↦ inr (
          λ limited. unlimited (left.limit ∙ limited ∙ ap Some (sym count)),
          record {
            here = made.there;
            pages = made.pages ∙ left.pages;
            limit = made.limit ∙ left.limit;
          },
        )
      ]

  takes-first : (k : ℕ) → IsFirstFree old.pages k → (log : Log T) (new : WorldState T) → Executes Leaves old log new
      → IsUnhinted a log → events_of log ≡ taking a (passing a k) → IsSome (held_by (slice_get new.agents a))
  takes-first k free [] new ran alone events = absurd (cc)
  takes-first k free (entry ∷ []) new ran alone events = absurd (cc)
  takes-first k free (entry ∷ (other ∷ [])) new ran alone events = absurd (cc)
  takes-first k free ((e, answer) ∷ ((f, given) ∷ ((d, word) ∷ log))) new
      (third, (second, (first, ran, step1, exact1), step2, exact2), step3, exact3)
      (own3, (own2, (own1, alone))) events =
      let came = passed k free.linked free.full log first ran alone (cc) in
      takes-item old.pages k free.free log d f e word given answer first second third new came.here came.pages ran
      step1 exact1 step2 exact2 step3 exact3 own1.0 own2.0 own3.0 (cc) (cc) (cc)

  links-first : AllFull old.pages → old.limit ≢ Some (length old.pages) → (values : List T) (m : ℕ)
      → length old.pages ≡ suc m → (log : Log T) (new : WorldState T) → Executes Leaves old log new → IsUnhinted a log
      → events_of log ≡ taking a (linking a values (passing a (suc m))) → IsSome (held_by (slice_get new.agents a))
  links-first all free values m last [] new ran alone events = absurd (cc)
  links-first all free values m last (e1 ∷ []) new ran alone events = absurd (cc)
  links-first all free values m last (e1 ∷ (e2 ∷ [])) new ran alone events = absurd (cc)
  links-first all free values m last (e1 ∷ (e2 ∷ (e3 ∷ []))) new ran alone events = absurd (cc)
  links-first all free values m last (e1 ∷ (e2 ∷ (e3 ∷ (e4 ∷ [])))) new ran alone events = absurd (cc)
  links-first all free values m last
      ((e, answer) ∷ ((f, given) ∷ ((d, word) ∷ ((h, linked) ∷ ((g, made) ∷ log))))) new (
        third,
        (second, (first, (both, (end, ran, step_g, exact_g), step_h, exact_h), step1, exact1), step2, exact2),
        step3,
        exact3,
      )
      (own3, (own2, (own1, (own_h, (own_g, alone))))) events =
      elim (left-last all m last log end ran alone (cc)) [
        | inl (limited, told) ↦ absurd (free limited)
        | inr (unlimited, came) ↦
            let makes : g ≡ event.MakePage a (Ok values) = cc in
            let links : h ≡ event.ExchangeNext a = cc in
            let solo_g = is-step (event.MakePage a (Ok values)) (Making m) log g made end both ran step_g exact_g
            own_g.0 makes came.here tt in
            let (own, with_page) = makes-page solo_g m came.here (rw makes tt) in
            let ran_g : Executes Leaves old ((g, made) ∷ log) both = (end, ran, step_g, exact_g) in
            let solo_h = is-step (event.ExchangeNext a) (Linking m own) ((g, made) ∷ log) h linked both first ran_g
            step_h exact_h own_h.0 links with_page.there tt in
            let same : both.pages ≡ old.pages = with_page.pages ∙ came.pages in
            let count : length both.pages ≡ length old.pages = ap length same in
            let (there, longer) = links-page solo_h m own with_page.there (omega arith) in
            let is : m + 1 ≡ length old.pages = omega arith in
            takes-item (old.pages ++ linked_page own ∷ []) (length old.pages) (linked-free old.pages own)
            ((h, linked) ∷ ((g, made) ∷ log)) d f e word given answer first second third new
            (there ∙ ap (λ j. Some (Reading j None)) is) (longer ∙ ap (λ all. all ++ linked_page own ∷ []) same)
            (both, ran_g, step_h, exact_h) step1 exact1 step2 exact2 step3 exact3 own1.0 own2.0 own3.0 (cc) (cc) (cc)
      ]

  pub ran-in_order : (log : Log T) (new : WorldState T) → Executes Leaves old log new → IsUnhinted a log
      → StepsInOrder old log new a
  ran-in_order log new ran alone =
      let last : AllFull old.pages → (m : ℕ) × (length old.pages ≡ suc m) = λ all.
      let some = all.some in (length old.pages - 1, omega arith) in
      let same : (m : ℕ) → length old.pages ≡ suc m → passing {T = T} a (length old.pages) ≡ passing a (suc m) =
      λ m is. ap (passing {T = T} a) is in
      record {
        takes = λ k free events. takes-first k free log new ran alone events;
        links = λ all free values events.
            let (m, is) = last all in
            links-first all free values m is log new ran alone
            (events ∙ ap (λ before. taking a (linking a values before)) (same m is));
        refused = λ all limited events.
            let (m, is) = last all in
            elim (left-last all m is log new ran alone (events ∙ same m is)) [
              | inl (limit, told) ↦ told
              | inr (unlimited, came) ↦ absurd (unlimited limited)
            ];
      }
