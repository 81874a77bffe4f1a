-- What was played on a core, said of the pool that the core stands for.
use Rattle.std.proofs.Common.{◌≡◌, ℕ, Option, Some, None, List, [], ◌∷◌, Result, ap, inl, inr}
use Rattle.pool_parts.specs.declared.pull_error.PullError.{PullError}
use Rattle.object_pool_cores.specs.declared.sequential.item.Item.{Item}
use Rattle.object_pool_cores.specs.declared.sequential.attach_error.AttachError.{AttachError}
use Rattle.object_pool_cores.specs.declared.sequential.command.Command.{Command}
use Rattle.object_pool_cores.specs.declared.sequential.command.Command.TheVariants.{Pull, Write, Return, Forget, Attach}
use Rattle.object_pool_cores.specs.declared.sequential.reply.Reply.{Reply}
use Rattle.object_pool_cores.specs.Held.{Playing, held_at}
use Rattle.object_pool_cores.specs.Lines.{with_last_line}
use Rattle.object_pool_cores.specs.Replies.{Plays, AfterWrite, AfterReturn, AfterForget}
use Rattle.object_pool_cores.specs.Served.{AppendsPart, ServesLines, ServesAllLines, ServesFrontLines}
use Rattle.object_pool_cores.specs.Served.{StopsWriting}
use Rattle.object_pool_cores.specs.Transcript.{AnswersLine, Transcript}
use Rattle.std.specs.Prelude.{OnOk}
use Rattle.std.proofs.Common.{Err}
use Rattle.std.specs.Io.KnownBytes.{Appends, Consumes, IsAtEnd}
use Rattle.object_pool_cores.specs.declared.engine.engine_error.EngineError.{EngineError}
use Rattle.object_pool_cores.specs.declared.engine.engine_error.EngineError.TheVariants as engine
use Rattle.object_pool_cores.specs.declared.engine.engine_error.EngineError.TheVariants.{Read, Memory}
use Rattle.object_pool_cores.specs.declared.engine.kind.Kind.{Kind}
use Rattle.object_pool_cores.specs.Engine.{Telling, OnKind, Ends, tells_all, tells_lines, tells_front, tells_part}
use Rattle.object_pool_cores.proofs.ReplyRuns.{OnOk-map}

-- the steps of a pool
abbrev PullStep : Type 0 → Type 1
PullStep P = P → Result (Item ℕ) PullError → P → Type 0

abbrev ReturnStep : Type 0 → Type 1
ReturnStep P = P → Item ℕ → P → Type 0

abbrev AttachStep : Type 0 → Type 1
AttachStep P = P → ℕ → Result (Item ℕ) (AttachError ℕ) → P → Type 0

-- A core shows a pool, as long as it is set so: each of its steps is a step of the pool, and it
-- stays set.
module _ {C P : Type 0} (show : C → P) (IsSet : C → Type 0) (pulls : PullStep C) (gives : ReturnStep C)
    (attaches : AttachStep C)
    (shown_pulls : PullStep P) (shown_gives : ReturnStep P) (shown_attaches : AttachStep P)
    (pull_shown : (old new : C) (answer : Result (Item ℕ) PullError) → IsSet old → pulls old answer new
    → shown_pulls (show old) answer (show new) × IsSet new)
    (give_shown : (old new : C) (item : Item ℕ) → IsSet old → gives old item new
    → shown_gives (show old) item (show new) × IsSet new)
    (attach_shown : (old new : C) (value : ℕ) (answer : Result (Item ℕ) (AttachError ℕ)) → IsSet old
    → attaches old value answer new → shown_attaches (show old) value answer (show new) × IsSet new) where
  abbrev pub shown : Playing C ℕ → Playing P ℕ
  shown playing = record { pool = show playing.pool; held = playing.held }

  write_shown : (old new : Playing C ℕ) (index value : ℕ) (held : Option (Item ℕ)) (reply : Reply ℕ) → IsSet old.pool
      → AfterWrite pulls gives attaches old index value held reply new
      → AfterWrite shown_pulls shown_gives shown_attaches (shown old) index value held reply (shown new)
      × IsSet new.pool
  write_shown old new index value None reply set played = ((played.0, ap shown played.1), rw played.1 set)
  write_shown old new index value (Some item) reply set played = ((played.0, ap shown played.1), rw played.1 set)

  forget_shown : (old new : Playing C ℕ) (index : ℕ) (held : Option (Item ℕ)) (reply : Reply ℕ) → IsSet old.pool
      → AfterForget pulls gives attaches old index held reply new
      → AfterForget shown_pulls shown_gives shown_attaches (shown old) index held reply (shown new) × IsSet new.pool
  forget_shown old new index None reply set played = ((played.0, ap shown played.1), rw played.1 set)
  forget_shown old new index (Some item) reply set played = ((played.0, ap shown played.1), rw played.1 set)

  return_shown : (old new : Playing C ℕ) (index : ℕ) (held : Option (Item ℕ)) (reply : Reply ℕ) → IsSet old.pool
      → AfterReturn pulls gives attaches old index held reply new
      → AfterReturn shown_pulls shown_gives shown_attaches (shown old) index held reply (shown new) × IsSet new.pool
  return_shown old new index None reply set played = ((played.0, ap shown played.1), rw played.1 set)
  return_shown old new index (Some item) reply set played = let gave =
      give_shown old.pool new.pool item set played.1 in ((played.0, gave.0, played.2), gave.1)

  plays_shown : (old new : Playing C ℕ) (command : Command ℕ) (reply : Reply ℕ) → IsSet old.pool
      → Plays pulls gives attaches old command reply new
      → Plays shown_pulls shown_gives shown_attaches (shown old) command reply (shown new) × IsSet new.pool
  plays_shown old new Pull reply set played = let pulled = pull_shown old.pool new.pool played.0 set played.1 in
      ((played.0, pulled.0, played.2), pulled.1)
  plays_shown old new (Write index value) reply set played =
      write_shown old new index value (held_at old.held index) reply set played
  plays_shown old new (Return index) reply set played =
      return_shown old new index (held_at old.held index) reply set played
  plays_shown old new (Forget index) reply set played =
      forget_shown old new index (held_at old.held index) reply set played
  plays_shown old new (Attach value) reply set played =
      let attached = attach_shown old.pool new.pool value played.0 set played.1 in
      ((played.0, attached.0, played.2), attached.1)

  answers_shown : (old new : Playing C ℕ) (line text : List ℕ) → IsSet old.pool
      → AnswersLine pulls gives attaches old line text new
      → AnswersLine shown_pulls shown_gives shown_attaches (shown old) line text (shown new) × IsSet new.pool
  answers_shown old new line text set (inl answer) =
      let answered = answer.2 in
      let played = plays_shown old new answer.0 answered.reply set answered.played in (
        inl (
          answer.0,
          answer.1,
          record {
            reply = answered.reply;
            words = answered.words;
            played = played.0;
            said = answered.said;
            whole = answered.whole;
          },
        ),
        played.1,
      )
  answers_shown old new line text set (inr bad) =
      (inr (bad.0, ap shown bad.1, bad.2), rw bad.1 set)

  transcript_shown : (old new : Playing C ℕ) (lines : List (List ℕ)) (text : List ℕ) → IsSet old.pool
      → Transcript pulls gives attaches old lines text new
      → Transcript shown_pulls shown_gives shown_attaches (shown old) lines text (shown new)
  transcript_shown old new [] text set told = (told.0, ap shown told.1)
  transcript_shown old new (line ∷ lines) text set told =
      let answer = answers_shown old told.2 line told.0 set told.4 in
      (told.0, told.1, shown told.2, told.3, answer.0, transcript_shown told.2 new lines told.1 answer.1 told.5)

  module _ (old : Playing C ℕ) (set : IsSet old.pool) (before : Option (List ℕ)) (after : Option (List ℕ)) where
    module _ (Writes : Option (List ℕ) → Option (List ℕ) → List ℕ → Type 0) where
      Serves-shown : (bytes rest : List ℕ) (last : Playing C ℕ)
          → ServesLines pulls gives attaches Writes old before bytes rest last after
          → ServesLines shown_pulls shown_gives shown_attaches Writes (shown old) before bytes rest (shown last) after
      Serves-shown bytes rest last served = record {
        lines = served.lines;
        text = served.text;
        split = served.split;
        told = transcript_shown old last served.lines served.text set served.told;
        written = served.written;
      }

      ServesAll-shown : (bytes : List ℕ) → ServesAllLines pulls gives attaches Writes old before bytes after
          → ServesAllLines shown_pulls shown_gives shown_attaches Writes (shown old) before bytes after
      ServesAll-shown bytes served = record {
        lines = served.lines;
        rest = served.rest;
        text = served.text;
        last = shown served.last;
        split = served.split;
        told = transcript_shown old served.last (with_last_line served.lines served.rest) served.text set served.told;
        written = served.written;
      }

      ServesFront-shown : (bytes : List ℕ) → ServesFrontLines pulls gives attaches Writes old before bytes after
          → ServesFrontLines shown_pulls shown_gives shown_attaches Writes (shown old) before bytes after
      ServesFront-shown bytes served = record {
        front = served.front;
        back = served.back;
        rest = served.rest;
        last = shown served.last;
        cut = served.cut;
        served = Serves-shown served.front served.rest served.last served.served;
      }

    StopsWriting-shown : (bytes : List ℕ) (all_read : Type 0)
        → StopsWriting pulls gives attaches all_read old before bytes after
        → StopsWriting shown_pulls shown_gives shown_attaches all_read (shown old) before bytes after
    StopsWriting-shown bytes all_read (inl served) = inl (ServesFront-shown AppendsPart bytes served)
    StopsWriting-shown bytes all_read (inr served) = inr (served.0, ServesAll-shown AppendsPart bytes served.1)

  -- what was served ends as the kind's definition says
  module _ (old : Playing C ℕ) (set : IsSet old.pool) (kind : Kind) (leaves : ℕ → ℕ → Type 0)
      (on_kind : (tells : Telling) → tells P shown_pulls shown_gives shown_attaches (shown old)
      → OnKind leaves kind tells)
      (result : Result (Unit {0}) EngineError) (unread left before after : Option (List ℕ)) where
    pub Ends-served : OnOk result
        ((bytes : List ℕ) × Consumes unread left bytes × IsAtEnd left
        × ServesAllLines pulls gives attaches Appends old before bytes after)
        → (result ≡ Err Read → (bytes rest : List ℕ) × (last : Playing C ℕ) × Consumes unread left bytes
        × ServesLines pulls gives attaches Appends old before bytes rest last after)
        →
        (result ≡ Err engine.Write → (bytes : List ℕ) × Consumes unread left bytes
        × StopsWriting pulls gives attaches (IsAtEnd left) old before bytes after)
        →
        (result ≡ Err Memory → (bytes : List ℕ) × Consumes unread left bytes
        × ServesFrontLines pulls gives attaches Appends old before bytes after)
        → Ends kind leaves result unread left before after
    Ends-served ok read write memory = record {
      ok = OnOk-map result (λ served. (
        served.0,
        served.1,
        served.2,
        on_kind (tells_all before served.0 after)
            (ServesAll-shown old set before after Appends served.0 served.3),
      )) ok;
      read = λ e. let served = read e in (
        served.0,
        served.3,
        on_kind (tells_lines before served.0 after)
            (served.1, shown served.2, Serves-shown old set before after Appends served.0 served.1 served.2 served.4),
      );
      write = λ e. let served = write e in (
        served.0,
        served.1,
        on_kind (tells_part before served.0 after (IsAtEnd left))
            (StopsWriting-shown old set before after served.0 (IsAtEnd left) served.2),
      );
      memory = λ e. let served = memory e in (
        served.0,
        served.1,
        on_kind (tells_front before served.0 after)
            (ServesFront-shown old set before after Appends served.0 served.2),
      );
    }
