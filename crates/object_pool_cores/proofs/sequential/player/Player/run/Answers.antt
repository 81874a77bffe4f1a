-- That after an error a prefix of the commands is done, with its replies in order, and some are
-- left. With room for the replies, commands that take no memory are all done.
use Rattle.std.proofs.Common.{◌++◌, ◌∷◌, [], sym, ◌∙◌, arith}
use Rattle.std.proofs.lemmas.Bool.{false≢true}
use Rattle.std.specs.Vec.Iter.{into_iter_items}
use Rattle.object_pool_cores.proofs.ReplyRuns.{Replies-append, length-replies, room_for_next, appended}
use Rattle.object_pool_cores.proofs.ReplyRuns.{taken_front, some_left, no_Ok, OnErr-always}
use Rattle.object_pool_cores.proofs.sequential.player.Player.run.Goals as goal

pub returns-in_err-reserve-clause-ran : goal.returns-in_err-reserve-clause-ran
returns-in_err-reserve-clause-ran g c =
    let so_far = c.loop-command.invariant in
    record {
      done = c.loop-command.yielded;
      rest = into_iter_items c.loop-command.command-iterator;
      replies = so_far.0;
      begins = sym c.into_iter-command-iterator.ensures.into_iter_gives.0 ∙ taken_front _ _ _ c.loop-command.yielded_by;
      answers = c.in_err-reserve.ensures.items ∙ so_far.1;
      replied = so_far.2;
      whole = no_Ok _ _ c.from_residual.ensures.0;
      stopped = OnErr-always _ (some_left _ _ _ c.in-Some.ensures.steps.0);
    }

pub returns-in_err-reply-clause-ran : goal.returns-in_err-reply-clause-ran
returns-in_err-reply-clause-ran g c =
    let so_far = c.loop-command.invariant in
    record {
      done = c.loop-command.yielded;
      rest = into_iter_items c.loop-command.command-iterator;
      replies = so_far.0;
      begins = sym c.into_iter-command-iterator.ensures.into_iter_gives.0 ∙ taken_front _ _ _ c.loop-command.yielded_by;
      answers = c.in_ok-reserve.ensures.items ∙ so_far.1;
      replied = rw c.in_err-reply.ensures.err so_far.2;
      whole = no_Ok _ _ c.from_residual-in_err-reply.ensures.0;
      stopped = OnErr-always _ (some_left _ _ _ c.in-Some.ensures.steps.0);
    }

pub loop-command-preserved : goal.loop-command-preserved
loop-command-preserved g c =
    let so_far = c.loop-command.invariant in (
      so_far.0 ++ c.in_ok-reply.reply ∷ [],
      appended _ _ _ _ _ (c.in_ok-reserve.ensures.items ∙ so_far.1)
          (rw c.if-is_err.ensures.negation at c.push.ensures.items),
      Replies-append _ _ _ _ _ _ _ _ _ _ so_far.2 c.in_ok-reply.ensures.ok,
      omega (arith, so_far.3, c.in_ok-reserve.ensures.capacity, c.push.ensures.capacity),
    )

pub returns-in_err-reserve-clause-room_is_there : goal.returns-in_err-reserve-clause-room_is_there
returns-in_err-reserve-clause-room_is_there g c = λ plain room.
    let so_far = c.loop-command.invariant in
    let begins = sym c.into_iter-command-iterator.ensures.into_iter_gives.0
    ∙ taken_front _ _ _ c.loop-command.yielded_by in
    let next = room_for_next _ _ _ _ _ _ _ _ _ begins c.in-Some.ensures.steps.0 so_far.1
    (length-replies _ _ _ _ _ _ _ so_far.2) room in
    absurd (false≢true (c.in_err-reserve.ensures.succeeds (omega (arith, next, so_far.3, c.loop-command.replies.ok.0))))
