-- Bytes that go on, and their lines.
use Rattle.std.proofs.Common.{◌≡◌, ◌≢◌, ℕ, ◌+◌, ◌<◌, List, [], ◌∷◌, ◌++◌, length, get_or, take, refl, sym, ap, ◌∙◌}
use Rattle.std.proofs.Common.{append_assoc, append-nil}
use Rattle.std.proofs.lemmas.List.{take_more}
use Rattle.std.specs.Prelude.{flat_map}
use Rattle.std.proofs.lemmas.List.Elements.{All-nil, All-push, All-append}
use Rattle.std.proofs.lemmas.Grind.{flat_map-append}
use Rattle.object_pool_cores.specs.Lines.{ended, HasNoLineFeed, IsLines}

pub IsLines-none : IsLines [] [] []
IsLines-none = record { whole = refl; each = All-nil HasNoLineFeed; open_end = All-nil (λ byte. byte ≢ 10) }

-- a rest has no line
pub IsLines-rest : (rest : List ℕ) → HasNoLineFeed rest → IsLines rest [] rest
IsLines-rest rest clear = record { whole = refl; each = All-nil HasNoLineFeed; open_end = clear }

-- a byte that is no line feed goes to the rest
pub IsLines-byte : (bytes : List ℕ) (lines : List (List ℕ)) (rest : List ℕ) (byte : ℕ)
    → IsLines bytes lines rest → byte ≢ 10
    → IsLines (bytes ++ byte ∷ []) lines (rest ++ byte ∷ [])
IsLines-byte bytes lines rest byte split other = record {
  whole = ap (λ all. all ++ byte ∷ []) split.whole ∙ append_assoc (flat_map ended lines) rest (byte ∷ []);
  each = split.each;
  open_end = All-push (λ b. b ≢ 10) rest byte split.open_end other;
}

-- a line feed makes a line of the rest
pub IsLines-feed : (bytes : List ℕ) (lines : List (List ℕ)) (rest : List ℕ) → IsLines bytes lines rest
    → IsLines (bytes ++ 10 ∷ []) (lines ++ rest ∷ []) []
IsLines-feed bytes lines rest split = record {
  whole =
      ap (λ all. all ++ 10 ∷ []) split.whole ∙ append_assoc (flat_map ended lines) rest (10 ∷ [])
      ∙ ap (λ line. flat_map ended lines ++ line) (sym (append-nil (ended rest)))
      ∙ sym (flat_map-append ended lines (rest ∷ [])) ∙ sym (append-nil (flat_map ended (lines ++ rest ∷ [])));
  each = All-push HasNoLineFeed lines rest split.each split.open_end;
  open_end = All-nil (λ byte. byte ≢ 10);
}

-- lines of some bytes, and of their rest with further bytes
pub IsLines-join : (bytes more : List ℕ) (lines others : List (List ℕ)) (rest last : List ℕ) → IsLines bytes lines rest
    → IsLines (rest ++ more) others last → IsLines (bytes ++ more) (lines ++ others) last
IsLines-join bytes more lines others rest last split next = record {
  whole =
      ap (λ all. all ++ more) split.whole ∙ append_assoc (flat_map ended lines) rest more
      ∙ ap (λ all. flat_map ended lines ++ all) next.whole
      ∙ sym (append_assoc (flat_map ended lines) (flat_map ended others) last)
      ∙ ap (λ all. all ++ last) (sym (flat_map-append ended lines others));
  each = All-append HasNoLineFeed lines others split.each next.each;
  open_end = next.open_end;
}

-- a prefix of what comes behind the lines of some bytes
pub IsLines-front : (bytes more front back : List ℕ) (lines others : List (List ℕ)) (rest last : List ℕ)
    → IsLines bytes lines rest → rest ++ more ≡ front ++ back → IsLines front others last
    → IsLines (flat_map ended lines ++ front) (lines ++ others) last
    × (bytes ++ more ≡ (flat_map ended lines ++ front) ++ back)
IsLines-front bytes more front back lines others rest last split cut next = (
  record {
    whole =
        ap (λ all. flat_map ended lines ++ all) next.whole
        ∙ sym (append_assoc (flat_map ended lines) (flat_map ended others) last)
        ∙ ap (λ all. all ++ last) (sym (flat_map-append ended lines others));
    each = All-append HasNoLineFeed lines others split.each next.each;
    open_end = next.open_end;
  },
  ap (λ all. all ++ more) split.whole ∙ append_assoc (flat_map ended lines) rest more
      ∙ ap (λ all. flat_map ended lines ++ all) cut ∙ sym (append_assoc (flat_map ended lines) front back),
)

-- one byte more of some bytes
pub take_behind : (front bytes : List ℕ) (i byte : ℕ) → i < length bytes → get_or bytes i 0 ≡ byte
    → front ++ take (i + 1) bytes ≡ (front ++ take i bytes) ++ byte ∷ []
take_behind front bytes i byte within here =
    ap (λ all. front ++ all) (take_more bytes i 0 within ∙ ap (λ b. take i bytes ++ b ∷ []) here)
    ∙ sym (append_assoc front (take i bytes) (byte ∷ []))
