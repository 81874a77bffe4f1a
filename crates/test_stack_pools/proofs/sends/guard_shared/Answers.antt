use mir.Syntax.{named}
use denote.Param.{param}
use Rattle.stack_pools.proofs.GuardShared.{guard_sync}
use Rattle.test_stack_pools.proofs.sends.guard_shared.Goals as goal

pub shared-requires-sync-X : goal.shared-requires-sync-X
shared-requires-sync-X g c κs within = record {
  shared =
      (guard_sync (record { mir = named 0; lft = _ }) (param 0 g.row.T) c.type_bounds.send-T
      c.type_bounds.sync-T).shared;
}
