-- What lines of commands are answered: a text for each line, in order.
use Rattle.std.specs.Prelude.{◌≡◌, ℕ, List, [], ◌∷◌, ◌++◌, Result, ◌⊎◌, codes}
use Rattle.pool_parts.specs.declared.pull_error.PullError.{PullError}
use Rattle.object_pool_cores.specs.declared.sequential.item.Item.{Item}
use Rattle.object_pool_cores.specs.declared.sequential.attach_error.AttachError.{AttachError}
use Rattle.object_pool_cores.specs.declared.sequential.command.Command.{Command}
use Rattle.object_pool_cores.specs.declared.sequential.reply.Reply.{Reply}
use Rattle.object_pool_cores.specs.CommandText.{IsCommand, IsBadLine}
use Rattle.object_pool_cores.specs.Held.{Playing}
use Rattle.object_pool_cores.specs.Lines.{ended}
use Rattle.object_pool_cores.specs.Replies.{Plays}
use Rattle.object_pool_cores.specs.ReplyText.{IsReplyText, command_index}

module _ {P : Type 0} (pulls : P → Result (Item ℕ) PullError → P → Type 0) (gives : P → Item ℕ → P → Type 0)
    (attaches : P → ℕ → Result (Item ℕ) (AttachError ℕ) → P → Type 0) where
  -- the command is played, and the text is its reply's
  pub record AnswersCommand (old : Playing P ℕ) (command : Command ℕ) (text : List ℕ) (new : Playing P ℕ) : Type 0 where
    pub reply : Reply ℕ
    pub words : List ℕ
    pub played : Plays pulls gives attaches old command reply new
    pub said : IsReplyText (command_index command) new.held reply words
    pub whole : text ≡ ended words

  -- the text answers the line, which is a command, or a bad line, which changes nothing
  abbrev pub AnswersLine : Playing P ℕ → List ℕ → List ℕ → Playing P ℕ → Type 0
  AnswersLine old line text new =
      ((command : Command ℕ) × IsCommand line command × AnswersCommand old command text new)
      ⊎ (IsBadLine line × (new ≡ old) × (text ≡ ended (codes "bad line")))

  -- the text answers the lines, one after another
  abbrev pub Transcript : Playing P ℕ → List (List ℕ) → List ℕ → Playing P ℕ → Type 0
  Transcript old [] text new = (text ≡ []) × (new ≡ old)
  Transcript old (line ∷ lines) text new =
      (first rest : List ℕ) × (middle : Playing P ℕ) × (text ≡ first ++ rest) × AnswersLine old line first middle
      × Transcript middle lines rest new
