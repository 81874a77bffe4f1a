use Rattle.std.proofs.Common.{take}
use Rattle.object_pool_cores.proofs.CommandWords.{HasNoSpace}
use Rattle.object_pool_cores.proofs.engine.command_text.around_space.Given as goal

abbrev pub invariant-loop-index : goal.invariant-loop-index
invariant-loop-index l = HasNoSpace (take l.index l.text)
