-- What was served goes on.
use Rattle.std.proofs.Common.{◌≡◌, ◌≢◌, ℕ, Option, Some, List, [], ◌∷◌, ◌++◌, Result, refl, sym, ap, ◌∙◌}
use Rattle.std.proofs.Common.{append_assoc, append-nil}
use Rattle.std.specs.Prelude.{flat_map}
use Rattle.std.specs.Io.KnownBytes.{Appends, Keeps}
use Rattle.std.proofs.KnownBytes.{Appends-nil, Appends-trans, Appends-kept}
use Rattle.pool_parts.specs.declared.pull_error.PullError.{PullError}
use Rattle.object_pool_cores.specs.declared.sequential.item.Item.{Item}
use Rattle.object_pool_cores.specs.declared.sequential.attach_error.AttachError.{AttachError}
use Rattle.object_pool_cores.specs.Held.{Playing}
use Rattle.object_pool_cores.specs.Lines.{ended, HasNoLineFeed, with_last_line}
use Rattle.object_pool_cores.specs.Transcript.{AnswersLine, Transcript}
use Rattle.object_pool_cores.specs.Served.{AppendsPart, ServesLines, ServesFrontLines, ServesAllLines}
use Rattle.object_pool_cores.specs.Inside.LastLine.{AnswersLastLine}
use Rattle.object_pool_cores.proofs.LineSplits.{IsLines-rest, IsLines-byte, IsLines-feed, IsLines-join, IsLines-front}

-- a part of what comes behind a text
pub AppendsPart-behind : (first before after : Option (List ℕ)) (text bytes : List ℕ) → Appends first before text
    → AppendsPart before after bytes → AppendsPart first after (text ++ bytes)
AppendsPart-behind first before after text bytes written part = record {
  front = text ++ part.front;
  back = part.back;
  cut = ap (λ all. text ++ all) part.cut ∙ sym (append_assoc text part.front part.back);
  written = Appends-trans first before after text part.front written part.written;
}

-- a last line joins the lines before it
with_last_line-join : (lines others : List (List ℕ)) (rest : List ℕ) → with_last_line (lines ++ others) rest ≡ lines
    ++ with_last_line others rest
with_last_line-join lines others [] = refl
with_last_line-join lines others (byte ∷ rest) = append_assoc lines others ((byte ∷ rest) ∷ [])

module _ {P : Type 0} (pulls : P → Result (Item ℕ) PullError → P → Type 0) (gives : P → Item ℕ → P → Type 0)
    (attaches : P → ℕ → Result (Item ℕ) (AttachError ℕ) → P → Type 0) where
  -- two transcripts, one after the other
  Transcript-join : (old middle new : Playing P ℕ) (lines others : List (List ℕ)) (text more : List ℕ)
      → Transcript pulls gives attaches old lines text middle → Transcript pulls gives attaches middle others more new
      → Transcript pulls gives attaches old (lines ++ others) (text ++ more) new
  Transcript-join old middle new [] others text more first next =
      rw (first.0, sym first.1) next
  Transcript-join old middle new (line ∷ lines) others text more first next = (
    first.0,
    first.1 ++ more,
    first.2,
    ap (λ all. all ++ more) first.3 ∙ append_assoc first.0 first.1 more,
    first.4,
    Transcript-join first.2 middle new lines others first.1 more first.5 next,
  )

  -- the transcript of one line
  Transcript-line : (old new : Playing P ℕ) (line text : List ℕ) → AnswersLine pulls gives attaches old line text new
      → Transcript pulls gives attaches old (line ∷ []) text new
  Transcript-line old new line text answer = (text, [], new, sym (append-nil text), answer, (refl, refl))

  module _ (old : Playing P ℕ) (before : Option (List ℕ)) where
    pub Serves-byte : (bytes rest : List ℕ) (new : Playing P ℕ) (after : Option (List ℕ)) (byte : ℕ) → byte ≢ 10
        → ServesLines pulls gives attaches Appends old before bytes rest new after
        → ServesLines pulls gives attaches Appends old before (bytes ++ byte ∷ []) (rest ++ byte ∷ []) new after
    Serves-byte bytes rest new after byte other served = record {
      lines = served.lines;
      text = served.text;
      split = IsLines-byte bytes served.lines rest byte served.split other;
      told = served.told;
      written = served.written;
    }

    pub Serves-line : (bytes rest text : List ℕ) (middle new : Playing P ℕ) (between after : Option (List ℕ))
        → ServesLines pulls gives attaches Appends old before bytes rest middle between
        → AnswersLine pulls gives attaches middle rest text new
        → Appends between after text
        → ServesLines pulls gives attaches Appends old before (bytes ++ 10 ∷ []) [] new after
    Serves-line bytes rest text middle new between after served answer written = record {
      lines = served.lines ++ rest ∷ [];
      text = served.text ++ text;
      split = IsLines-feed bytes served.lines rest served.split;
      told = Transcript-join old middle new served.lines (rest ∷ []) served.text text served.told
          (Transcript-line middle new rest text answer);
      written = Appends-trans before between after served.text text served.written written;
    }

    pub Serves-join : (bytes more rest last : List ℕ) (middle new : Playing P ℕ) (between after : Option (List ℕ))
        → ServesLines pulls gives attaches Appends old before bytes rest middle between
        → ServesLines pulls gives attaches Appends middle between (rest ++ more) last new after
        → ServesLines pulls gives attaches Appends old before (bytes ++ more) last new after
    Serves-join bytes more rest last middle new between after served next = record {
      lines = served.lines ++ next.lines;
      text = served.text ++ next.text;
      split = IsLines-join bytes more served.lines next.lines rest last served.split next.split;
      told = Transcript-join old middle new served.lines next.lines served.text next.text served.told next.told;
      written = Appends-trans before between after served.text next.text served.written next.written;
    }

    -- nothing more was written
    pub ServesFront-kept : (bytes rest all back : List ℕ) (last : Playing P ℕ) (between after : Option (List ℕ))
        → ServesLines pulls gives attaches Appends old before bytes rest last between
        → Keeps between after → all ≡ bytes ++ back
        → ServesFrontLines pulls gives attaches Appends old before all after
    ServesFront-kept bytes rest all back last between after served kept cut = record {
      front = bytes;
      back = back;
      rest = rest;
      last = last;
      cut = cut;
      served = record {
        lines = served.lines;
        text = served.text;
        split = served.split;
        told = served.told;
        written = Appends-kept before between after served.text served.written kept;
      };
    }

    -- a last line that has no byte is none
    pub AnswersLast-none : (rest : List ℕ) → rest ≡ []
        → AnswersLastLine pulls gives attaches Appends old before rest before
    AnswersLast-none [] e = record { text = []; last = old; told = (refl, refl); written = Appends-nil before }
    AnswersLast-none (byte ∷ rest) e = cc

    -- a rest without a line feed has no line to serve
    pub Serves-none : (rest : List ℕ) → HasNoLineFeed rest
        → ServesLines pulls gives attaches Appends old before (rest ++ []) rest old before
    Serves-none rest clear = record {
      lines = [];
      text = [];
      split = rw append-nil (IsLines-rest rest clear);
      told = (refl, refl);
      written = Appends-nil before;
    }

    -- ---- written whole, or in part
    module _ (Writes : Option (List ℕ) → Option (List ℕ) → List ℕ → Type 0)
        (behind : (first between after : Option (List ℕ)) (text bytes : List ℕ) → Appends first between text
        → Writes between after bytes → Writes first after (text ++ bytes)) where
      pub ServesFront-join : (bytes more rest : List ℕ) (middle : Playing P ℕ) (between after : Option (List ℕ))
          → ServesLines pulls gives attaches Appends old before bytes rest middle between
          → ServesFrontLines pulls gives attaches Writes middle between (rest ++ more) after
          → ServesFrontLines pulls gives attaches Writes old before (bytes ++ more) after
      ServesFront-join bytes more rest middle between after served part =
          let next = part.served in
          let lines = IsLines-front bytes more part.front part.back served.lines next.lines rest part.rest
          served.split part.cut next.split in
          record {
            front = flat_map ended served.lines ++ part.front;
            back = part.back;
            rest = part.rest;
            last = part.last;
            cut = lines.1;
            served = record {
              lines = served.lines ++ next.lines;
              text = served.text ++ next.text;
              split = lines.0;
              told = Transcript-join old middle part.last served.lines next.lines served.text next.text
                  served.told next.told;
              written = behind before between after served.text next.text served.written next.written;
            };
          }

      -- a last line joins the lines before it
      pub ServesAll-last : (bytes rest : List ℕ) (middle : Playing P ℕ) (between after : Option (List ℕ))
          → ServesLines pulls gives attaches Appends old before bytes rest middle between
          → AnswersLastLine pulls gives attaches Writes middle between rest after
          → ServesAllLines pulls gives attaches Writes old before bytes after
      ServesAll-last bytes rest middle between after served last =
          let joined : with_last_line served.lines rest ≡ served.lines ++ with_last_line [] rest =
          ap (λ all. with_last_line all rest) (sym (append-nil served.lines))
          ∙ with_last_line-join served.lines [] rest in
          record {
            lines = served.lines;
            rest = rest;
            text = served.text ++ last.text;
            last = last.last;
            split = served.split;
            told =
                rw joined
                (Transcript-join old middle last.last served.lines (with_last_line [] rest) served.text last.text
                served.told last.told);
            written = behind before between after served.text last.text served.written last.written;
          }

      -- a last line that has a byte was answered
      pub AnswersLast-line : (rest text : List ℕ) (last : Playing P ℕ) (after : Option (List ℕ)) → rest ≢ []
          → AnswersLine pulls gives attaches old rest text last → Writes before after text
          → AnswersLastLine pulls gives attaches Writes old before rest after
      AnswersLast-line [] text last after some answer written = absurd (some refl)
      AnswersLast-line (byte ∷ rest) text last after some answer written = record {
        text = text;
        last = last;
        told = Transcript-line old last (byte ∷ rest) text answer;
        written = written;
      }

      -- what was gathered is written
      pub Serves-written : (bytes rest text : List ℕ) (new : Playing P ℕ) (after : Option (List ℕ))
          → ServesLines pulls gives attaches Appends old (Some []) bytes rest new (Some text) → Writes before after text
          → ServesLines pulls gives attaches Writes old before bytes rest new after
      Serves-written bytes rest text new after served written = record {
        lines = served.lines;
        text = served.text;
        split = served.split;
        told = served.told;
        written = rw served.written at written;
      }

      pub ServesFront-written : (bytes text : List ℕ) (after : Option (List ℕ))
          → ServesFrontLines pulls gives attaches Appends old (Some []) bytes (Some text) → Writes before after text
          → ServesFrontLines pulls gives attaches Writes old before bytes after
      ServesFront-written bytes text after stopped written = record {
        front = stopped.front;
        back = stopped.back;
        rest = stopped.rest;
        last = stopped.last;
        cut = stopped.cut;
        served = Serves-written stopped.front stopped.rest text stopped.last after stopped.served written;
      }

      pub Serves-front : (bytes rest text : List ℕ) (new : Playing P ℕ) (after : Option (List ℕ))
          → ServesLines pulls gives attaches Appends old (Some []) bytes rest new (Some text) → Writes before after text
          → ServesFrontLines pulls gives attaches Writes old before bytes after
      Serves-front bytes rest text new after served written = record {
        front = bytes;
        back = [];
        rest = rest;
        last = new;
        cut = sym (append-nil bytes);
        served = Serves-written bytes rest text new after served written;
      }
