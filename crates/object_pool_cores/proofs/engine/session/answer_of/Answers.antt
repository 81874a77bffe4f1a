-- That the player plays the command, and that the text is that of its reply.
use Rattle.std.proofs.Common.{◌≡◌, ◌++◌, ℕ, List, Bool, true, false, Result, codes, refl, sym}
use Rattle.std.specs.Prelude.{if◌then◌else◌}
use Rattle.std.specs.Fmt.{decimal}
use Rattle.pool_parts.specs.declared.pull_error.PullError.{PullError}
use Rattle.object_pool_cores.specs.declared.sequential.attach_error.AttachError.{AttachError}
use Rattle.object_pool_cores.specs.declared.sequential.command.Command.{Command}
use Rattle.object_pool_cores.specs.declared.sequential.item.Item.{Item}
use Rattle.object_pool_cores.specs.declared.sequential.reply.Reply.{Reply}
use Rattle.object_pool_cores.specs.declared.sequential.reply.Reply.TheVariants.{Pulled, Refused, Written, Returned}
use Rattle.object_pool_cores.specs.declared.sequential.reply.Reply.TheVariants.{Forgotten, Attached, AttachRefused}
use Rattle.object_pool_cores.specs.declared.sequential.reply.Reply.TheVariants.{NoSuchHolder}
use Rattle.object_pool_cores.specs.Held.{Playing}
use Rattle.object_pool_cores.specs.Lines.{ended}
use Rattle.object_pool_cores.specs.Replies.{Plays}
use Rattle.object_pool_cores.specs.ReplyText.{IsReplyText, command_index, pulled_text, refusal_text}
use Rattle.object_pool_cores.specs.ReplyText.{attach_refusal_text}
use Rattle.object_pool_cores.specs.Transcript.{AnswersCommand}
use Rattle.object_pool_cores.proofs.engine.session.answer_of.Goals as goal

module _ {P : Type 0} (pulls : P → Result (Item ℕ) PullError → P → Type 0) (gives : P → Item ℕ → P → Type 0)
    (attaches : P → ℕ → Result (Item ℕ) (AttachError ℕ) → P → Type 0) where
  -- a command at an index is answered by its word and the index, or that nothing is held there
  answers_held : (old new : Playing P ℕ) (command : Command ℕ) (is_held : Bool) (reply : Reply ℕ) (words text : List ℕ)
      → Plays pulls gives attaches old command (if is_held then reply else NoSuchHolder) new
      → IsReplyText (command_index command) new.held reply words
      → text ≡ ended (if is_held then words else codes "no such holder")
      → AnswersCommand pulls gives attaches old command text new
  answers_held old new command true reply words text played said whole =
      record { reply = reply; words = words; played = played; said = said; whole = whole }
  answers_held old new command false reply words text played said whole =
      record { reply = NoSuchHolder; words = codes "no such holder"; played = played; said = refl; whole = whole }

pub returns-in-Ok-clause-ok : goal.returns-in-Ok-clause-ok
returns-in-Ok-clause-ok g c = record {
  reply = Pulled c.in-Ok.index c.in-Ok.number;
  words = pulled_text c.in-Ok.index c.in-Ok.number c.unwrap.result.now;
  played = rw c.in-Pull.is (rw c.in-Ok.is at c.in_ok-index-in-Pull.ensures.pulled);
  said = (c.unwrap.result.now, sym (rw c.unwrap.ensures at c.held.ensures), refl);
  whole = c.pulled_line.ensures;
}

pub returns-in-Err-clause-ok : goal.returns-in-Err-clause-ok
returns-in-Err-clause-ok g c = record {
  reply = Refused c.in-Err.cause;
  words = refusal_text c.in-Err.cause;
  played = rw c.in-Pull.is (rw c.in-Err.is at c.in_ok-index-in-Pull.ensures.refused);
  said = refl;
  whole = rw c.refusal.ensures.text at c.plain_line.ensures;
}

pub returns-in-Write-clause-ok : goal.returns-in-Write-clause-ok
returns-in-Write-clause-ok g c =
    answers_held _ _ _ _ _ _ c.write.result Written (codes "written " ++ decimal c.in-Write.index) _
    (rw c.in-Write.is c.write.ensures) (rw c.in-Write.is refl) c.held_line.ensures

pub returns-in-Return-clause-ok : goal.returns-in-Return-clause-ok
returns-in-Return-clause-ok g c =
    answers_held _ _ _ _ _ _ c.give.result Returned (codes "returned " ++ decimal c.in-Return.index) _
    (rw c.in-Return.is c.give.ensures) (rw c.in-Return.is refl) c.held_line-in-Return.ensures

pub returns-in-Forget-clause-ok : goal.returns-in-Forget-clause-ok
returns-in-Forget-clause-ok g c =
    answers_held _ _ _ _ _ _ c.forget.result Forgotten (codes "forgotten " ++ decimal c.in-Forget.index) _
    (rw c.in-Forget.is c.forget.ensures) (rw c.in-Forget.is refl) c.held_line-in-Forget.ensures

pub returns-in-Ok-2-clause-ok : goal.returns-in-Ok-2-clause-ok
returns-in-Ok-2-clause-ok g c = record {
  reply = Attached c.in-Ok-2.index;
  words = codes "attached " ++ decimal c.in-Ok-2.index;
  played = rw c.in-Attach.is (rw c.in-Ok-2.is at c.in_ok-index-in-Attach.ensures.attached);
  said = refl;
  whole = c.indexed_line.ensures;
}

pub returns-in-Err-2-clause-ok : goal.returns-in-Err-2-clause-ok
returns-in-Err-2-clause-ok g c = record {
  reply = AttachRefused c.in-Err-2.error;
  words = attach_refusal_text c.in-Err-2.error;
  played = rw c.in-Attach.is (rw c.in-Err-2.is at c.in_ok-index-in-Attach.ensures.refused);
  said = refl;
  whole = rw c.attach_refusal.ensures.text at c.plain_line-in-Err-2.ensures;
}
