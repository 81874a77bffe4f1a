-- That a run of events is the world's steps one after another, with their answers in order; if
-- memory runs out, up to there.
use Rattle.std.proofs.Common.{◌≡◌, ◌∷◌, [], ◌++◌, refl, ◌∙◌, reverse, rules, length, arith}
use Rattle.std.proofs.lemmas.List.{reverse-reverse}
use Rattle.pool_world.proofs.World.RunsEvents.{replayed-none, replayed-next, runs_events-from, on-err}
use Rattle.pool_world.proofs.World.RunsEvents.{no-elements}
use Rattle.pool_world.proofs.interleave.world.World.run.Goals as goal

pub loop-event-init : goal.loop-event-init
loop-event-init g c =
    let turned : reverse c.reverse.new.self.items ≡ c.args.events.items = search (rules, reverse-reverse) in
    record {
      replayed = rw (turned, ← c.self.view_is) (replayed-none _ _ _ _);
      kept = record { agents = omega arith; pages = omega arith };
      same_reset = refl;
      count = omega (arith, c.reverse.ensures.len);
      room = omega arith;
    }

pub returns-in_err-reserve-clause-run : goal.returns-in_err-reserve-clause-run
returns-in_err-reserve-clause-run g c =
    rw c.in_err-reserve.ensures.items
    (runs_events-from _ _ _ _ _ _ _ _ c.loop-event.invariant.replayed (on-err _ _ c.from_residual.ensures.0))

pub loop-event-preserved : goal.loop-event-preserved
loop-event-preserved g c =
    let kept = c.loop-event.invariant in
    let stepped = rw kept.same_reset at c.step-answer.ensures.step in
    let answered : c.push.new.self.items ≡ c.loop-event.seen.items ++ c.step-answer.result ∷ [] =
    let same : c.reserve.new.self.items ≡ c.loop-event.seen.items = c.in_ok-reserve.ensures.items in
    rw (c.in_ok-push.ensures.items, same) refl in
    record {
      replayed = replayed-next _ _ _ _ _ _ _ _ _ c.in-Some.event c.step-answer.result _ c.in-Some.ensures.items answered
          kept.replayed stepped c.step-answer.ensures.exact;
      kept = record {
        agents = omega (arith, kept.kept.agents, c.step-answer.ensures.room_stays.agents);
        pages = omega (arith, kept.kept.pages, c.step-answer.ensures.room_stays.pages);
      };
      same_reset = c.step-answer.ensures.reset ∙ kept.same_reset;
      count = omega (arith, kept.count, c.in-Some.ensures.cases, c.in_ok-reserve.ensures.len, c.in_ok-push.ensures.len);
      room = omega (arith, kept.room, c.in_ok-reserve.ensures.capacity, c.push.ensures.capacity);
    }

pub returns-clause-run : goal.returns-clause-run
returns-clause-run g c =
    let none : length c.loop-event.events.items ≡ 0 = grind (arith, c.in_default.ensures.cases) in
    runs_events-from _ _ _ _ _ _ _ _ c.loop-event.invariant.replayed (no-elements _ none)
