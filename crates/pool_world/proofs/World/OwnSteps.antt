-- An agent that looks goes on with each of its own steps.
use Rattle.std.proofs.Common.{◌≡◌, inl, inr, ℕ, ◌+◌, ◌*◌, ◌≤◌, ◌==◌, Bool, true, false, if◌then◌else◌, Option, Some}
use Rattle.std.proofs.Common.{nat_eq, bit_and, ◌-◌, IfSome}
use Rattle.std.proofs.Common.{None}
use Rattle.std.proofs.Common.{List, [], ◌∷◌, ◌++◌, length, slice_get, slice_set, refl, ap, sym, ◌∙◌, subst, arith}
use Rattle.std.proofs.Common.{length-append}
use Rattle.std.proofs.lemmas.Bool.{eq-eqb, ne_eqb, cases_eq, cases_lt}
use Rattle.std.proofs.lemmas.Option.{slice_get_past, slice_get_within}
use Rattle.std.specs.Option.{option_eq}
use Rattle.std.specs.Int.{w32, trailing_zeros}
use Rattle.pool_world.specs.declared.interleave.event.Event.{Event}
use Rattle.pool_world.specs.declared.interleave.event.Event.TheVariants as event
use Rattle.pool_world.specs.declared.interleave.event.Seen.{Seen}
use Rattle.pool_world.specs.declared.interleave.point.Point.{Point}
use Rattle.pool_world.specs.declared.interleave.point.Point.TheVariants.{Reading, Clearing, AtLink}
use Rattle.pool_world.specs.declared.interleave.point.Point.TheVariants.{ClearingHinted}
use Rattle.pool_world.specs.Run.{Act}
use Rattle.pool_world.specs.World.State.{WorldPageState, WorldState}
use Rattle.pool_world.specs.World.Machine.{IsOutcome, word_of, begin, event_agent}
use Rattle.pool_world.specs.World.Machine.{point_of}
use Rattle.pool_world.specs.World.Trace.{Log}
use Rattle.pool_world.specs.World.OwnSteps.{is_idle, is_step_of}
use Rattle.pool_world.specs.World.Inside.Invariant.{SawFull, Agrees}
use Rattle.pool_world.proofs.Places.{slice_get-set_same, slice_get-set_other}
use Rattle.pool_world.proofs.Places.{slice_get-append_front, slice_get-append_last}
use Rattle.pool_world.proofs.World.Bits.{lowest-lt, without_lowest-lt}
use Rattle.pool_world.proofs.World.Moves as move
use Rattle.pool_world.proofs.World.Moves.{moved, Moves, Reads, ReadsByHint, LosesBit, LosesBitByHint}
use Rattle.pool_world.proofs.World.Moves.{FindsNoNext, GoesNext, MakesPage, LinksPage, LosesLink, Happens}
use Rattle.pool_world.proofs.World.Moves.{move-named, move-busy, known}
use Rattle.pool_world.specs.World.Inside.Progress.{taken_early, Rises, MovesOn}
use Rattle.pool_world.proofs.World.Progress.{lowest-grows, early-past, advances-past, advances-tries}
use Rattle.pool_world.proofs.World.Progress.{advances-hinted, advances-next, advances-end, advances-made}
use Rattle.pool_world.proofs.World.Progress.{advances-linked}

module _ {T : Type 0} where
  -- what a step does to an agent: nothing, or it begins, or it goes one step further
  pub data Effect (old new : Option (Point T)) (own : Bool) : Type 0 where
    Stays : (own ≡ false) → (new ≡ old) → Effect old new own
    Begins : (own ≡ false) → (old ≡ None) → (new ≡ Some (Reading 0 None)) → Effect old new own
    Goes : (from point : Point T) → (own ≡ true) → (old ≡ Some from) → (new ≡ Some point) → MovesOn from point
        → Effect old new own

  -- nothing happens
  stays : (e : Event T) (old new : WorldState T) (answer : Seen) → is_idle answer ≡ true → new ≡ old → (a : ℕ)
      → Effect (slice_get old.agents a) (slice_get new.agents a) (is_step_of e answer a)
  stays e old new answer idle same a =
      Stays (ap (λ idle. if idle then false else option_eq nat_eq (event_agent e) (Some a)) idle)
      (ap (λ world. slice_get world.agents a) same)

module _ {T : Type 0} {Leaves : T → T → Type 0} {first : List T} {log : Log T} {acts : List (Act T)}
    {old : WorldState T} (agrees : Agrees Leaves first log acts old) where
  -- a page that a hint named lies before the end of the chain
  early-end : (b k : ℕ) (asked : Option ℕ) → IfSome asked (λ hint. SawFull first acts (length old.pages) b hint)
      → length old.pages ≡ k + 1 → taken_early asked k ≡ 0
  early-end b k None full last = refl
  early-end b k (Some hint) full last = let linked = full.linked in early-past hint k (omega arith)

  -- each move leads on
  leads-on : (b : ℕ) (from to : Point T) (e : Event T) (answer : Seen) (pages : List (WorldPageState T))
      → slice_get old.agents b ≡ Some from → Moves Leaves old b from e answer pages to → MovesOn from to
  leads-on b from to e answer pages at (Reads k asked) =
      advances-tries (Reading k asked) k (word_of old.pages k) asked (36 * k) (69 * k) refl refl (omega arith)
      (omega arith) (λ some. (omega arith, omega arith))
  leads-on b from to e answer pages at (ReadsByHint hint further linked) =
      advances-hinted (AtLink 0 None) hint (word_of old.pages hint) 33 refl refl further (omega arith)
      (λ some. omega arith)
  leads-on b from to e answer pages at (LosesBit k mask asked clear) =
      let bits = (known agrees b (Clearing k mask asked) at).1 in
      let some = bits.some in
      let fits = bits.in_word in
      let within = lowest-lt mask some fits in
      advances-tries (Clearing k mask asked) k (bit_and mask (mask - 1)) asked (36 * k + 1 + trailing_zeros w32 mask)
      (69 * k + 1 + trailing_zeros w32 mask) refl refl (omega arith) (omega arith)
      (λ left. let up = lowest-grows mask some fits (without_lowest-lt mask fits) left in
      (omega arith, omega arith))
  leads-on b from to e answer pages at (LosesBitByHint hint mask clear) =
      let tried = known agrees b (ClearingHinted hint mask) at in
      let some = tried.bits.some in
      let fits = tried.bits.in_word in
      let within = lowest-lt mask some fits in
      advances-hinted (ClearingHinted hint mask) hint (bit_and mask (mask - 1)) (34 + trailing_zeros w32 mask) refl refl
      tried.further (omega arith)
      (λ left. let up = lowest-grows mask some fits (without_lowest-lt mask fits) left in omega arith)
  leads-on b from to e answer pages at (FindsNoNext k asked below last) =
      let past = known agrees b (AtLink k asked) at in
      advances-end k asked (early-end b k asked past.asked_full last)
  leads-on b from to e answer pages at (GoesNext k asked more) = advances-next k asked
  leads-on b from to e answer pages at (MakesPage k values) = advances-made k values
  leads-on b from to e answer pages at (LinksPage k values whole last) = advances-linked k values
  leads-on b from to e answer pages at (LosesLink k values more) = advances-linked k values
  leads-on b from to e answer pages at _ = advances-past _ _ refl refl

  begins : (e : Event T) (answer : Seen) (new : WorldState T) → e ≡ event.Begin → IsOutcome (begin old) answer new
      → (a : ℕ) → Effect (slice_get old.agents a) (slice_get new.agents a) (is_step_of e answer a)
  begins e answer new is row a =
      let agents : new.agents ≡ old.agents ++ Reading 0 None ∷ [] = ap (λ world. world.agents) row.1 in
      let own : is_step_of e answer a ≡ false =
      ap (λ idle. if idle then false else option_eq nat_eq (event_agent e) (Some a)) (ap is_idle row.0)
      ∙ ap (λ x. option_eq nat_eq (event_agent x) (Some a)) is in
      elim (cases_lt a (length old.agents)) [
        | inl below ↦
            Stays own
            (ap (λ all. slice_get all a) agents ∙ slice_get-append_front old.agents (Reading 0 None ∷ []) a below)
        | inr past ↦ elim (cases_eq a (length old.agents)) [
          | inl same ↦ Begins own (slice_get_past old.agents a past)
              (ap (λ all. slice_get all a) agents ∙ ap (λ c. slice_get (old.agents ++ Reading 0 None ∷ []) c) same
              ∙ slice_get-append_last old.agents (Reading 0 None))
          | inr other ↦
              Stays own
              (ap (λ all. slice_get all a) agents
              ∙ slice_get_past (old.agents ++ Reading 0 None ∷ []) a
              (omega (arith, length-append old.agents (Reading 0 None ∷ [])))
              ∙ sym (slice_get_past old.agents a past))
        ]
      ]

  moves-on : (e : Event T) (answer : Seen) (new : WorldState T) (b : ℕ) (from to : Point T)
      (pages : List (WorldPageState T)) → slice_get old.agents b ≡ Some from
      → Moves Leaves old b from e answer pages to → new ≡ moved old pages b to
      → (a : ℕ) → Effect (slice_get old.agents a) (slice_get new.agents a) (is_step_of e answer a)
  moves-on e answer new b from to pages at moves is a =
      let agents : new.agents ≡ slice_set old.agents b to = ap (λ world. world.agents) is in
      let own : is_step_of e answer a ≡ (b == a) =
      ap (λ idle. if idle then false else option_eq nat_eq (event_agent e) (Some a)) (move-busy moves)
      ∙ ap (λ agent. option_eq nat_eq agent (Some a)) (move-named moves) in
      elim (cases_eq b a) [
        | inl same ↦
            let was : slice_get old.agents a ≡ Some from = ap (λ c. slice_get old.agents c) (sym same) ∙ at in
            let here : slice_get new.agents a ≡ Some to = ap (λ all. slice_get all a) agents
            ∙ ap (λ c. slice_get (slice_set old.agents b to) c) (sym same)
            ∙ slice_get-set_same old.agents b to (slice_get_within old.agents b from at) in
            Goes from to (own ∙ eq-eqb b a same) was here (leads-on b from to e answer pages at moves)
        | inr other ↦
            Stays (own ∙ ne_eqb b a other)
            (ap (λ all. slice_get all a) agents ∙ slice_get-set_other old.agents b a to (λ is. other (sym is)))
      ]

  pub step-does : (e : Event T) (answer : Seen) (new : WorldState T) → Happens Leaves old e (point_of old e) answer new
      → (a : ℕ) → Effect (slice_get old.agents a) (slice_get new.agents a) (is_step_of e answer a)
  step-does e answer new (move.NotEnabled none is same) = stays e old new answer (ap is_idle is) same
  step-does e answer new (move.NoMemory may is same) = stays e old new answer (ap is_idle is) same
  step-does e answer new (move.Begins is row) = begins e answer new is row
  step-does e answer new (move.Goes b from to pages at moves is) = moves-on e answer new b from to pages at moves is

-- ---- over a list of steps
module _ {T : Type 0} (measure : Point T → Option ℕ) where
  -- where an agent started that hadn't begun, or was at a point
  abbrev pub measure_from : Option (Point T) → Option ℕ
  measure_from None = Some 0
  measure_from (Some point) = measure point

  -- an agent went on by as many steps as were its own
  abbrev pub AdvancedTo : Option (Point T) → ℕ → Option (Point T) → Type 0
  AdvancedTo start n None = (n ≡ 0) × (start ≡ None)
  AdvancedTo start n (Some point) = (later : ℕ) → measure point ≡ Some later → (sooner : ℕ)
      × (measure_from start ≡ Some sooner) × (sooner + n ≤ later)

  -- by one step more
  pub effect-advances : ((from point : Point T) → MovesOn from point → Rises measure from point)
      → (start old new : Option (Point T)) (n : ℕ) (own : Bool) → Effect old new own → AdvancedTo start n old
      → AdvancedTo start (if own then n + 1 else n) new
  effect-advances counts start old new n own (Stays not same) before = rw (not, same) before
  effect-advances counts start old new n own (Begins not was is) before =
      let P : Option (Point T) → Type 0 = AdvancedTo start n in
      let (none, same) = subst P was before in
      rw (not, is) (λ later lookup. (0, ap measure_from same, omega arith))
  effect-advances counts start old new n own (Goes from point mine was is further) before =
      let P : Option (Point T) → Type 0 = AdvancedTo start n in
      let there : AdvancedTo start n (Some from) = subst P was before in
      rw (mine, is) (λ later lookup.
      let (middle, from_is, less) = counts from point further later lookup in
      let (sooner, start_is, few) = there middle from_is in
      (sooner, start_is, omega arith))

  pub none-advanced : (start : Option (Point T)) → AdvancedTo start 0 start
  none-advanced None = (refl, refl)
  none-advanced (Some point) = λ later lookup. (later, lookup, omega arith)
