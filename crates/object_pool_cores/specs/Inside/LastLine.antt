-- What an engine wrote for the bytes after the last line feed.
use Rattle.std.specs.Prelude.{ℕ, Option, List, [], Result}
use Rattle.pool_parts.specs.declared.pull_error.PullError.{PullError}
use Rattle.object_pool_cores.specs.declared.sequential.item.Item.{Item}
use Rattle.object_pool_cores.specs.declared.sequential.attach_error.AttachError.{AttachError}
use Rattle.object_pool_cores.specs.Held.{Playing}
use Rattle.object_pool_cores.specs.Lines.{with_last_line}
use Rattle.object_pool_cores.specs.Transcript.{Transcript}

module _ {P : Type 0} (pulls : P → Result (Item ℕ) PullError → P → Type 0) (gives : P → Item ℕ → P → Type 0)
    (attaches : P → ℕ → Result (Item ℕ) (AttachError ℕ) → P → Type 0)
    (Writes : Option (List ℕ) → Option (List ℕ) → List ℕ → Type 0) where
  -- the unterminated final line was answered, where it has any bytes
  pub record AnswersLastLine (old : Playing P ℕ) (before : Option (List ℕ)) (rest : List ℕ)
      (after : Option (List ℕ)) : Type 0 where
    pub text : List ℕ
    pub last : Playing P ℕ
    pub told : Transcript pulls gives attaches old (with_last_line [] rest) text last
    pub written : Writes before after text
