use Rattle.std.proofs.Common.{◌∙◌, ap}
use Rattle.object_pool_cores.specs.Stack.{kept_of, stack_init, stack_reset}
use Rattle.object_pool_cores.proofs.Cores.EngineKinds.{IsSetStack, stack_pull, stack_give, stack_attach, on_stack}
use Rattle.object_pool_cores.proofs.Cores.ShownTranscript.{Ends-served}
use Rattle.object_pool_cores.proofs.engine.run_stack.Goals as goal

pub returns : goal.returns
returns g c =
    let leaves = g.S.Reset.leaves in
    let reset = c.args.reset in
    let player = c.new-2.result in
    let core = c.new-core.ensures in
    let set : IsSetStack leaves reset player.pool = record {
      init = ap stack_init c.new-2.ensures.pool ∙ core.init ∙ c.new.ensures;
      kept = ap stack_reset c.new-2.ensures.pool ∙ core.reset;
    } in
    Ends-served kept_of (IsSetStack leaves reset) _ _ _ _ _ _ (stack_pull leaves reset) (stack_give leaves reset)
    (stack_attach leaves reset) player set
    _ _ (on_stack leaves reset player (ap kept_of c.new-2.ensures.pool
    ∙ core.kept) c.new-2.ensures.held) _ _ _ _ _ c.serve.ensures.ok c.serve.ensures.read c.serve.ensures.write
    c.serve.ensures.memory
