-- What an engine wrote for the bytes that it read. `before` and `after` are
-- the bytes that the writer holds, for a writer of which they are known.
use Rattle.std.specs.Prelude.{◌≡◌, ℕ, Option, List, ◌++◌, Result, ◌⊎◌}
use Rattle.std.specs.Io.KnownBytes.{Appends}
use Rattle.pool_parts.specs.declared.pull_error.PullError.{PullError}
use Rattle.object_pool_cores.specs.declared.sequential.item.Item.{Item}
use Rattle.object_pool_cores.specs.declared.sequential.attach_error.AttachError.{AttachError}
use Rattle.object_pool_cores.specs.Held.{Playing}
use Rattle.object_pool_cores.specs.Lines.{IsLines, with_last_line}
use Rattle.object_pool_cores.specs.Transcript.{Transcript}

-- a prefix of the bytes was written
pub record AppendsPart (before after : Option (List ℕ)) (bytes : List ℕ) : Type 0 where
  pub front : List ℕ
  pub back : List ℕ
  pub cut : bytes ≡ front ++ back
  pub written : Appends before after front

module _ {P : Type 0} (pulls : P → Result (Item ℕ) PullError → P → Type 0) (gives : P → Item ℕ → P → Type 0)
    (attaches : P → ℕ → Result (Item ℕ) (AttachError ℕ) → P → Type 0) where
  -- how the answers were written: whole by Appends, or a prefix of them by AppendsPart
  module _ (Writes : Option (List ℕ) → Option (List ℕ) → List ℕ → Type 0) where
    -- each line whose line feed is in the bytes was answered
    pub record ServesLines (old : Playing P ℕ) (before : Option (List ℕ)) (bytes rest : List ℕ) (new : Playing P ℕ)
        (after : Option (List ℕ)) : Type 0 where
      pub lines : List (List ℕ)
      pub text : List ℕ
      pub split : IsLines bytes lines rest
      pub told : Transcript pulls gives attaches old lines text new
      pub written : Writes before after text

    -- each line of the bytes was answered, a last one without a line feed too
    pub record ServesAllLines (old : Playing P ℕ) (before : Option (List ℕ)) (bytes : List ℕ)
        (after : Option (List ℕ)) : Type 0 where
      pub lines : List (List ℕ)
      pub rest : List ℕ
      pub text : List ℕ
      pub last : Playing P ℕ
      pub split : IsLines bytes lines rest
      pub told : Transcript pulls gives attaches old (with_last_line lines rest) text last
      pub written : Writes before after text

    -- the lines of a prefix of the bytes were answered
    pub record ServesFrontLines (old : Playing P ℕ) (before : Option (List ℕ)) (bytes : List ℕ)
        (after : Option (List ℕ)) : Type 0 where
      pub front : List ℕ
      pub back : List ℕ
      pub rest : List ℕ
      pub last : Playing P ℕ
      pub cut : bytes ≡ front ++ back
      pub served : ServesLines old before front rest last after

  -- the writing stopped: at the lines whose line feed was read,
  -- or, only where all was read, at the last line without one
  abbrev pub StopsWriting : Type 0 → Playing P ℕ → Option (List ℕ) → List ℕ → Option (List ℕ) → Type 0
  StopsWriting all_read old before bytes after =
      ServesFrontLines AppendsPart old before bytes after
      ⊎ (all_read × ServesAllLines AppendsPart old before bytes after)
