-- A run of a world that is new: nothing was done in it before.
use Rattle.std.proofs.Common.{◌≡◌, ◌∙◌, List, [], ◌++◌, Ok, map, reverse, refl, sym, ap, subst}
use Rattle.std.proofs.lemmas.List.{append-nil}
use Rattle.std.specs.Prelude.{Result}
use Rattle.pool_world.specs.declared.interleave.event.Event.{Event}
use Rattle.pool_world.specs.declared.interleave.event.Seen.{Seen}
use Rattle.pool_world.specs.declared.run_error.RunError.{RunError}
use Rattle.pool_world.specs.World.Headline.{IsNew, IsRun, Past, RunsEvents}
use Rattle.pool_world.specs.World.State.{WorldState}
use Rattle.examples.specs.Agents.{AnswersAsOnePool}

module _ {T R : Type 0} (leaves : R → T → T → Type 0) {opening start end : WorldState T} {kept reset : R}
    {events : List (Event T)} {before seen : List Seen} {result : Result (Unit {0}) RunError} where
  pub answers_of_new : start ≡ opening → IsNew start → kept ≡ reset → before ≡ [] → result ≡ Ok tt
      → RunsEvents (leaves kept) (record { world = start; events = events; seen = before })
      (record { world = end; seen = seen; result = result })
      → AnswersAsOnePool (leaves reset) opening events seen
  answers_of_new same new is_kept is_first is_ok ran =
      let past : Past (leaves kept) start = record { start = start; is_new = new; log = []; ran = refl } in
      let run = subst (λ log. IsRun (leaves kept) new.first log end) (append-nil ran.log) (ran.headline past) in
      let none = rw is_ok at ran.all in
      let answers = rw is_first at ran.answers in
      subst (λ opening. AnswersAsOnePool (leaves reset) opening events seen) same
      (subst (λ reset. AnswersAsOnePool (leaves reset) start events seen) is_kept (record {
        is_new = new;
        log = ran.log;
        world = end;
        run = run;
        of_events = sym (append-nil (map (λ entry. entry.0) (reverse ran.log)))
            ∙ ap (λ rest. map (λ entry. entry.0) (reverse ran.log) ++ rest) (sym none) ∙ ran.done;
        of_answers = answers;
      }))
