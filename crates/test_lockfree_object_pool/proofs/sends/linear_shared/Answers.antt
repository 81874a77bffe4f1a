use mir.Syntax.{named}
use denote.Param.{param}
use Rattle.linear_pools.proofs.ReusableShared.{reusable_sync, owned_reusable_sync}
use Rattle.test_lockfree_object_pool.proofs.sends.linear_shared.Goals as goal

pub is_shared-requires-sync-X : goal.is_shared-requires-sync-X
is_shared-requires-sync-X g c κs within =
    let bounds = c.type_bounds in
    record {
      shared = (reusable_sync (param 0 g.row.T) (param 1 g.row.I) (param 2 g.row.R) (param 3 g.row.K) g.I.Init
          g.R.Reset g.K.Clean (record {
            mir = named 0;
            lft =
                _;
          }) bounds.send-T bounds.sync-T bounds.sync-I bounds.sync-R).shared;
    }

pub is_shared-requires-2-sync-X : goal.is_shared-requires-2-sync-X
is_shared-requires-2-sync-X g c κs within =
    let bounds = c.type_bounds in
    record {
      shared = (owned_reusable_sync (param 0 g.row.T) (param 1 g.row.I) (param 2 g.row.R) (param 3 g.row.K)
          g.I.Init g.R.Reset g.K.Clean bounds.send-T bounds.sync-T bounds.send-I bounds.sync-I bounds.send-R
          bounds.sync-R).shared;
    }
