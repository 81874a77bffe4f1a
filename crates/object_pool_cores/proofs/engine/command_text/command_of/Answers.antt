use Rattle.object_pool_cores.proofs.CommandWords.{IsBadLine-write}
use Rattle.object_pool_cores.proofs.engine.command_text.command_of.Goals as goal

pub returns-in_err-index : goal.returns-in_err-index
returns-in_err-index c = rw c.from_residual.ensures (IsBadLine-write _ _ c.in-Some.ensures c.in_err-index.ensures)
