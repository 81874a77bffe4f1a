use Rattle.object_pool_cores.proofs.engine.session.serve_line.Goals as goal

pub returns-in-Err-clause-write : goal.returns-in-Err-clause-write
returns-in-Err-clause-write g c =
    λ _ bytes buffered. (
      c.in-Ok.text.bytes,
      c.answer.new.player,
      c.in-Ok.ensures.ok bytes buffered,
      rw
          (← c.as_str.ensures.value, ← c.as_bytes.ensures.value) c.in-Err.ensures.err,
    )

pub returns-in-Ok-write_whole-clause-ok : goal.returns-in-Ok-write_whole-clause-ok
returns-in-Ok-write_whole-clause-ok g c =
    λ bytes buffered. (
      c.in-Ok.text.bytes,
      c.in-Ok.ensures.ok bytes buffered,
      rw
          (← c.as_str.ensures.value, ← c.as_bytes.ensures.value) c.in-Ok-write_whole.ensures.ok,
    )
