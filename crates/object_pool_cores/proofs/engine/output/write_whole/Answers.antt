use Rattle.std.proofs.Common.{◌++◌, take, ap, sym, ◌∙◌, append_assoc, take-append-drop}
use Rattle.std.proofs.KnownBytes.{Appends-trans}
use Rattle.object_pool_cores.proofs.engine.output.write_whole.Goals as goal

pub loop-rest-preserved : goal.loop-rest-preserved
loop-rest-preserved g c =
    let so_far = c.loop-rest.invariant in
    let taken = take c.in-Ok.count c.loop-rest.rest.now in (
      so_far.0 ++ taken,
      rw c.split_at.ensures.back (so_far.1 ∙ ap (λ rest. so_far.0 ++ rest)
          (sym (take-append-drop c.in-Ok.count c.loop-rest.rest.now)) ∙ sym (append_assoc so_far.0 taken _)),
      Appends-trans _ _ _ _ _ so_far.2 c.in-Ok.ensures.bytes,
    )
