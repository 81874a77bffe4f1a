-- That each line of the input is answered up to its end; after a failed read, each that had ended.
-- After want of memory the first lines are answered, and after a failed write a prefix of the
-- replies is written.
use Rattle.std.proofs.Common.{[], sym, ap, ◌∙◌, append-nil, rules, inl, inr}
use Rattle.std.specs.Prelude.{Err}
use Rattle.std.proofs.KnownBytes.{Consumes-nil, Consumes-trans, Consumes-kept}
use Rattle.std.proofs.lemmas.List.Elements.{All-nil}
use Rattle.std.proofs.lemmas.Result.{err_from_is_err_and}
use Rattle.object_pool_cores.proofs.ReplyRuns.{OnOk-map}
use Rattle.std.proofs.KnownBytes.{Appends-trans}
use Rattle.std.proofs.lemmas.Bool.{false≢true}
use Rattle.std.specs.Io.KnownBytes.{Appends, Consumes, IsAtEnd}
use Rattle.object_pool_cores.specs.Served.{AppendsPart}
use Rattle.object_pool_cores.proofs.TranscriptRuns.{Serves-none, Serves-join, ServesFront-join, ServesFront-kept}
use Rattle.object_pool_cores.proofs.TranscriptRuns.{ServesAll-last, AppendsPart-behind}
use Rattle.object_pool_cores.proofs.engine.session.serve.Given.{Over}
use Rattle.object_pool_cores.proofs.engine.session.serve.Goals.{in-None, in-Some+in-Ok+then-count-eq0}
use Rattle.object_pool_cores.proofs.engine.session.serve.Goals as goal

-- at the end of the input all was read, and what was served so far is a front of it
at_end : (g : Over) (c : goal.After-serve_last g)
    → Consumes (g.R.Read.remaining c.args.input.now) (g.R.Read.remaining c.match-next.input) c.reads.invariant.0
    × IsAtEnd (g.R.Read.remaining c.match-next.input)
at_end g c = elim c.match-next.branch [
  | in-None w ↦ absurd (false≢true (rw w.in-None.is at c.next.ensures.steps))
  | in-Some+in-Ok+then-count-eq0 w ↦ rw w.input-is (
    rw (w.if-count-eq0.true, append-nil) at (Consumes-trans _ _ _ _ _ c.reads.invariant.2 w.in-Ok.ensures.bytes.0),
    w.in-Ok.ensures.bytes.1 w.if-count-eq0.true (search rules),
  )
]

pub reads-init : goal.reads-init
reads-init g c = ([], [], Consumes-nil _, (c.new-line.ensures, All-nil _), Serves-none _ _ _ _ _ [] (All-nil _))

pub returns-in-Err-clause-read : goal.returns-in-Err-clause-read
returns-in-Err-clause-read g c = λ _.
    let so_far = c.reads.invariant in
    (so_far.0, so_far.1, c.reads.player, Consumes-kept _ _ _ _ so_far.2 c.in-Err.ensures.bytes, so_far.4)

pub returns-clause-ok : goal.returns-clause-ok
returns-clause-ok g c =
    let so_far = c.reads.invariant in
    let end = at_end g c in
    OnOk-map c.serve_last.result (λ served. (
      so_far.0,
      end.0,
      end.1,
      ServesAll-last _ _ _ _ _ Appends Appends-trans so_far.0 so_far.1 _ _ _ so_far.4 (served so_far.1 so_far.3.0),
    )) c.serve_last.ensures.ok

pub returns-clause-write : goal.returns-clause-write
returns-clause-write g c = λ e.
    let so_far = c.reads.invariant in
    let end = at_end g c in (
      so_far.0,
      end.0,
      inr (
        end.1,
        ServesAll-last _ _ _ _ _ AppendsPart AppendsPart-behind so_far.0
            so_far.1 _ _ _ so_far.4 (c.serve_last.ensures.write e so_far.1 so_far.3.0),
      ),
    )

pub returns-clause-memory : goal.returns-clause-memory
returns-clause-memory g c = λ e.
    let so_far = c.reads.invariant in (
      so_far.0,
      (at_end g c).0,
      ServesFront-kept _ _ _ _ _ so_far.0 so_far.1 _ [] _ _ _ so_far.4
          (c.serve_last.ensures.memory e) (sym (append-nil _)),
    )

pub reads-preserved : goal.reads-preserved
reads-preserved g c =
    let so_far = c.reads.invariant in
    let more = c.in_ok-serve_chunk.ensures.ok so_far.1 so_far.3 in (
      _,
      more.0,
      Consumes-trans _ _ _ _ _ so_far.2 c.in-Ok.ensures.bytes.0,
      more.1,
      Serves-join _ _ _ _ _ so_far.0 _ so_far.1 more.0 _ _ _ _ so_far.4 more.2,
    )

pub returns-in_err-serve_chunk-clause-write : goal.returns-in_err-serve_chunk-clause-write
returns-in_err-serve_chunk-clause-write g c = λ e.
    let so_far = c.reads.invariant in
    let error = err_from_is_err_and c.from_residual.result c.from_residual.ensures.1 in
    let failed = c.in_err-serve_chunk.ensures.write (ap Err (sym error.2) ∙ sym error.1 ∙ e) so_far.1 so_far.3 in (
      _,
      Consumes-trans _ _ _ _ _ so_far.2 c.in-Ok.ensures.bytes.0,
      inl (ServesFront-join _ _ _ _ _ AppendsPart AppendsPart-behind so_far.0 _ so_far.1 _ _ _ so_far.4 failed),
    )

pub returns-in_err-serve_chunk-clause-memory : goal.returns-in_err-serve_chunk-clause-memory
returns-in_err-serve_chunk-clause-memory g c = λ e.
    let so_far = c.reads.invariant in
    let error = err_from_is_err_and c.from_residual.result c.from_residual.ensures.1 in
    let stopped = c.in_err-serve_chunk.ensures.memory (ap Err (sym error.2) ∙ sym error.1 ∙ e) so_far.1 so_far.3 in (
      _,
      Consumes-trans _ _ _ _ _ so_far.2 c.in-Ok.ensures.bytes.0,
      ServesFront-join _ _ _ _ _ Appends Appends-trans so_far.0 _ so_far.1 _ _ _ so_far.4 stopped,
    )
