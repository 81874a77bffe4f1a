use Rattle.std.proofs.Common.{◌∙◌, ap}
use Rattle.object_pool_cores.specs.NoPool.{none_init}
use Rattle.object_pool_cores.proofs.Cores.EngineKinds.{IsSetNone, no_pool, none_pull, none_give, none_attach, on_none}
use Rattle.object_pool_cores.proofs.Cores.ShownTranscript.{Ends-served}
use Rattle.object_pool_cores.proofs.engine.run_none.Goals as goal

pub returns : goal.returns
returns g c =
    let player = c.new-2.result in
    let set : IsSetNone player.pool = ap none_init c.new-2.ensures.pool ∙ c.new-core.ensures ∙ c.new.ensures in
    Ends-served no_pool IsSetNone _ _ _ _ _ _ none_pull none_give none_attach player set
    _ _ (on_none (g.S.Reset.leaves c.args.reset) player c.new-2.ensures.held) _ _ _ _ _ c.serve.ensures.ok
    c.serve.ensures.read
    c.serve.ensures.write c.serve.ensures.memory
