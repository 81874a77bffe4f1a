use Rattle.std.proofs.Common.{[]}
use Rattle.std.proofs.KnownBytes.{Consumes-nil}
use Rattle.object_pool_cores.specs.Linear.{core_pool}
use Rattle.object_pool_cores.proofs.Cores.EngineKinds.{IsSetLinear, linear_pull, linear_give, linear_attach, linear_set}
use Rattle.object_pool_cores.proofs.Cores.EngineKinds.{on_linear, front-none}
use Rattle.object_pool_cores.proofs.Cores.ShownTranscript.{Ends-served}
use Rattle.object_pool_cores.proofs.engine.run_linear.Goals as goal

pub returns-in_default : goal.returns-in_default
returns-in_default g c = record {
  ok = tt;
  read = λ e. absurd cc;
  write = λ e. absurd cc;
  memory = λ e. ([], Consumes-nil _, front-none (g.S.Reset.leaves c.args.reset) c.args.limit _);
}

pub returns : goal.returns
returns g c =
    let leaves = g.S.Reset.leaves in
    let limit = c.args.limit in
    let reset = c.args.reset in
    let player = c.in-Some.player in
    let opens = c.in-Some.ensures.opens in
    Ends-served core_pool (IsSetLinear leaves limit reset) _ _ _ _ _ _ (linear_pull leaves limit reset)
    (linear_give leaves limit reset)
    (linear_attach leaves limit reset) player (linear_set leaves limit reset player.pool opens)
    _ _ (on_linear leaves limit reset player opens c.in-Some.ensures.held) _ _ _ _ _ c.serve.ensures.ok
    c.serve.ensures.read
    c.serve.ensures.write c.serve.ensures.memory
