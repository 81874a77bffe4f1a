-- That each line which the bytes end is answered in order, and that what comes after the last line
-- feed is kept. After want of memory the first lines are answered.
use Rattle.std.proofs.Common.{◌≢◌, get_or, append_assoc, take-append-drop, ◌++◌, ◌∷◌, [], drop, take, refl, sym, ap}
use Rattle.std.proofs.Common.{◌∙◌, arith, length-append}
use Rattle.std.proofs.lemmas.List.{take_all}
use Rattle.std.proofs.lemmas.List.Elements.{All-nil, All-push}
use Rattle.object_pool_cores.proofs.LineSplits.{take_behind}
use Rattle.object_pool_cores.proofs.ReplyRuns.{OnErr-always}
use Rattle.object_pool_cores.proofs.TranscriptRuns.{Serves-none, Serves-byte, Serves-line, ServesFront-kept}
use Rattle.object_pool_cores.proofs.engine.session.feed.Goals as goal
use Rattle.object_pool_cores.proofs.engine.session.feed.Goals.{then-byte-eq-LINE_FEED+in_ok-text}
use Rattle.object_pool_cores.proofs.engine.session.feed.Goals.{else-byte-eq-LINE_FEED}

pub loop-byte-init : goal.loop-byte-init
loop-byte-init g c =
    rw c.requires.replies (omega arith, λ rest opens. (rest, opens, Serves-none _ _ _ _ _ rest opens.1))

pub returns-in_err-text-clause-err : goal.returns-in_err-text-clause-err
returns-in_err-text-clause-err g c = OnErr-always c.from_residual.result (λ rest opens.
    let served = c.loop-byte.invariant.1 rest opens in
    ServesFront-kept _ _ _ _ _ _ served.0 _ (drop c.loop-byte.byte-index c.args.bytes.now) _ _ _ served.2 refl
    (ap (λ all. rest ++ all) (sym (take-append-drop c.loop-byte.byte-index c.args.bytes.now))
    ∙ sym (append_assoc rest (take c.loop-byte.byte-index c.args.bytes.now) _)))

pub loop-byte-preserved : goal.loop-byte-preserved
loop-byte-preserved g c = elim c.if-byte-eq-LINE_FEED.branch [
  | then-byte-eq-LINE_FEED+in_ok-text w ↦
      let gathered = rw w.as_str.ensures.value at w.push_str.ensures.bytes in
      let longer = length-append c.loop-byte.replies.bytes w.in_ok-text.text.bytes in (
        rw (w.replies-is, gathered)
            (omega (arith, c.loop-byte.invariant.0, longer, rw w.as_str.ensures.value at w.as_str.ensures.fits)),
        λ rest opens.
            let served = c.loop-byte.invariant.1 rest opens in
            let answer = w.in_ok-text.ensures.ok served.0 served.1.0 in
            let behind = take_behind rest c.args.bytes.now c.loop-byte.byte-index 10 c.loop-byte-test.true
            w.if-byte-eq-LINE_FEED.true in (
              [],
              (rw w.line-is w.new.ensures, All-nil _),
              rw (w.player-is, w.replies-is, behind)
                  (Serves-line _ _ _ _ _ _ served.0 _ _ _ _ _ served.2 answer gathered),
            ),
      )
  | else-byte-eq-LINE_FEED w ↦ (
    rw w.replies-is (omega (arith, c.loop-byte.invariant.0)),
    λ rest opens.
        let served = c.loop-byte.invariant.1 rest opens in
        let byte = get_or c.args.bytes.now c.loop-byte.byte-index 0 in
        let behind = take_behind rest c.args.bytes.now c.loop-byte.byte-index byte c.loop-byte-test.true refl in (
          served.0 ++ byte ∷ [],
          (
            rw w.line-is (w.push.ensures served.0 served.1.0),
            All-push (λ b. b ≢ 10) served.0 byte served.1.1 w.if-byte-eq-LINE_FEED.false,
          ),
          rw (w.player-is, w.replies-is, behind)
              (Serves-byte _ _ _ _ _ _ served.0 _ _ byte w.if-byte-eq-LINE_FEED.false served.2),
        ),
  )
]

pub returns-clause-ok : goal.returns-clause-ok
returns-clause-ok g c = λ rest opens.
    let served = c.loop-byte.invariant.1 rest opens in
    (served.0, served.1, rw (take_all c.loop-byte.byte-index c.args.bytes.now c.loop-byte-test.false) at served.2)
