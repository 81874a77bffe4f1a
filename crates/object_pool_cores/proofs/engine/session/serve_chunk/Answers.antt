use Rattle.object_pool_cores.proofs.ReplyRuns.{by_result}
use Rattle.std.proofs.KnownBytes.{Appends-trans}
use Rattle.std.specs.Io.KnownBytes.{Appends}
use Rattle.object_pool_cores.specs.Served.{AppendsPart}
use Rattle.object_pool_cores.proofs.TranscriptRuns.{Serves-written, ServesFront-written, Serves-front}
use Rattle.object_pool_cores.proofs.TranscriptRuns.{AppendsPart-behind}
use Rattle.object_pool_cores.proofs.engine.session.serve_chunk.Goals as goal

pub returns-in_default-clause-write : goal.returns-in_default-clause-write
returns-in_default-clause-write g c = λ _ rest opens.
    let part = rw (c.as_bytes.ensures.value, c.as_str.ensures.value) at c.in_default.ensures.err in
    by_result _ c.feed-fed.result c.feed-fed.ensures.ok c.feed-fed.ensures.err
    (λ fed. let more = fed rest opens in
    Serves-front _ _ _ _ _ AppendsPart AppendsPart-behind _ more.0 _ _ _ more.2 part)
    (λ stopped. ServesFront-written _ _ _ _ _ AppendsPart AppendsPart-behind _ _ _ (stopped rest opens) part)

pub returns-in-Ok-fed-clause-ok : goal.returns-in-Ok-fed-clause-ok
returns-in-Ok-fed-clause-ok g c = λ rest opens.
    let more = c.in-Ok-fed.ensures.ok rest opens in (
      more.0,
      more.1,
      Serves-written _ _ _ _ _ Appends Appends-trans _ more.0 _ _ _ more.2
          (rw (c.as_bytes.ensures.value, c.as_str.ensures.value) at c.in-Ok.ensures.ok),
    )

pub returns-in-Err-Memory-clause-memory : goal.returns-in-Err-Memory-clause-memory
returns-in-Err-Memory-clause-memory g c = λ _ rest opens.
    ServesFront-written _ _ _ _ _ Appends Appends-trans _ _ _ (c.in-Err-Memory.ensures.err rest opens)
    (rw (c.as_bytes.ensures.value, c.as_str.ensures.value) at c.in-Ok.ensures.ok)
