-- Events that are done one after another.
use Rattle.std.proofs.Common.{◌≡◌, List, [], ◌∷◌, ◌++◌, length, map, reverse, Result, Ok, Err, IsErr, OnOk, arith}
use Rattle.std.proofs.Common.{refl, ap, sym, ◌∙◌, append_assoc}
use Rattle.std.proofs.lemmas.List.{map-append, reverse-append, append-nil}
use Rattle.pool_world.specs.declared.interleave.event.Event.{Event}
use Rattle.pool_world.specs.declared.interleave.event.Seen.{Seen}
use Rattle.pool_world.specs.declared.run_error.RunError.{RunError}
use Rattle.pool_world.specs.World.State.{WorldState}
use Rattle.pool_world.specs.World.Machine.{Steps}
use Rattle.pool_world.specs.World.Trace.{Log}
use Rattle.pool_world.specs.World.Headline.{Executes, RunsEvents}
use Rattle.pool_world.specs.World.Enabled.{IsExact}
use Rattle.pool_world.specs.Laws.WorldBounds.{executes-append}
use Rattle.pool_world.proofs.World.Headline.{ran-is_run}

-- an error isn't Ok
pub on-err : {A E : Type 0} (result : Result A E) (P : Type 0) → IsErr result → OnOk result P
on-err (Ok value) P is = absurd (cc)
on-err (Err error) P is = tt

-- a list without elements
pub no-elements : {X : Type 0} (xs : List X) → length xs ≡ 0 → reverse xs ≡ []
no-elements [] none = refl
no-elements (x ∷ xs) none = absurd (omega arith)

module _ {T : Type 0} (Leaves : T → T → Type 0) (old : WorldState T) (events : List (Event T))
    (before : List Seen) where
  -- the events but the rest were done
  pub record Replayed (rest : List (Event T)) (after : List Seen) (new : WorldState T) : Type 0 where
    pub log : Log T
    pub done : map (λ entry. entry.0) (reverse log) ++ rest ≡ events
    pub answers : before ++ map (λ entry. entry.1) (reverse log) ≡ after
    pub steps : Executes Leaves old log new

  pub replayed-none : Replayed events before old
  replayed-none = record { log = []; done = refl; answers = append-nil before; steps = refl }

  -- one event more
  replayed-more : (rest : List (Event T)) (after : List Seen) (between : WorldState T) (e : Event T) (answer : Seen)
      (new : WorldState T)
      → Replayed (e ∷ rest) after between → Steps Leaves between e answer new → IsExact between e answer new
      → Replayed rest (after ++ answer ∷ []) new
  replayed-more rest after between e answer new replayed step exact =
      let log : Log T = replayed.log in
      let entry : Event T × Seen = (e, answer) in
      let events_so_far : List (Event T × Seen) → List (Event T) = map (λ entry. entry.0) in
      let answers_so_far : List (Event T × Seen) → List Seen = map (λ entry. entry.1) in
      let turned : reverse (entry ∷ log) ≡ reverse log ++ entry ∷ [] = reverse-append (entry ∷ []) log in
      record {
        log = entry ∷ log;
        done =
            ap (λ all. events_so_far all ++ rest) turned
            ∙ ap (λ all. all ++ rest) (map-append (λ entry. entry.0) (reverse log) (entry ∷ []))
            ∙ append_assoc (events_so_far (reverse log)) (e ∷ []) rest
            ∙ replayed.done;
        answers =
            ap (λ all. before ++ answers_so_far all) turned
            ∙ ap (λ all. before ++ all) (map-append (λ entry. entry.1) (reverse log) (entry ∷ []))
            ∙ sym (append_assoc before (answers_so_far (reverse log)) (answer ∷ []))
            ∙ ap (λ all. all ++ answer ∷ []) replayed.answers;
        steps = (between, replayed.steps, step, exact);
      }

  -- the same, of a list whose last event is done next
  pub replayed-next : (items rest : List (Event T)) (after later : List Seen) (between : WorldState T) (e : Event T)
      (answer : Seen)
      (new : WorldState T) → items ≡ rest ++ e ∷ [] → later ≡ after ++ answer ∷ []
      → Replayed (reverse items) after between → Steps Leaves between e answer new → IsExact between e answer new
      → Replayed (reverse rest) later new
  replayed-next items rest after later between e answer new last answered replayed step exact =
      let next : Replayed (e ∷ reverse rest) after between = rw (last, reverse-append rest (e ∷ [])) at replayed in
      rw answered (replayed-more (reverse rest) after between e answer new next step exact)

  pub runs_events-from : (rest : List (Event T)) (after : List Seen) (new : WorldState T)
      (result : Result (Unit {0}) RunError)
      → Replayed rest after new → OnOk result (rest ≡ [])
      → RunsEvents Leaves (record { world = old; events = events; seen = before })
      (record { world = new; seen = after; result = result })
  runs_events-from rest after new result replayed all = record {
    log = replayed.log;
    headline = λ past. ran-is_run Leaves past.start past.is_new (replayed.log ++ past.log) new
        (executes-append Leaves past.start old past.log past.ran replayed.log new replayed.steps);
    rest = rest;
    done = replayed.done;
    all = all;
    answers = replayed.answers;
    steps = replayed.steps;
  }
