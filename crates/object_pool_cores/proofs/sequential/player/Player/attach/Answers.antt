use Rattle.std.specs.Prelude.{Ok, Err}
use Rattle.std.proofs.Common.{rules}
use Rattle.object_pool_cores.proofs.sequential.player.Player.attach.Goals as goal

pub returns-in-Ok-clause-attached : goal.returns-in-Ok-clause-attached
returns-in-Ok-clause-attached g c = rw (← c.self.view_is) (Ok c.in-Ok.item, c.in-Ok.ensures.step, search rules)

pub returns-in-Err-clause-refused : goal.returns-in-Err-clause-refused
returns-in-Err-clause-refused g c = rw (← c.self.view_is) (Err c.in-Err.error, c.in-Err.ensures.step, search rules)
