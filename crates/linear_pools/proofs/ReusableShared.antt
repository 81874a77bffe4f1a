-- A linear reusable may be shared among threads where its value and its pool may.
use denote.RattleType.{RattleType}
use denote.Ref.{NamedLft}
use denote.Param.Send.{IsSend, IsSync, struct_sync, shr_sync, view_sync}
use denote.Struct.Declared.{shape}
use Rattle.std.proofs.Crossing.{Arc-sync}
use Rattle.pool_parts.specs.declared.clean.Clean.{Ghosts}
use Rattle.pool_parts.specs.declared.closures.Init as Init
use Rattle.pool_parts.specs.declared.closures.Reset as Reset
use Rattle.linear_pools.specs.contracts.linear_object_pool.LinearObjectPool as LinearObjectPool
use Rattle.linear_pools.specs.contracts.linear_object_pool.AnswerOf as AnswerOf
use Rattle.linear_pools.specs.contracts.linear_reusable.LinearReusable as LinearReusable
use Rattle.linear_pools.specs.contracts.linear_reusable.LinearReusable.TheInside as Inside
use Rattle.pool_parts.specs.contracts.made_or_reset.MadeOrReset as MadeOrReset
use Rattle.linear_pools.specs.contracts.linear_owned_reusable.LinearOwnedReusable as LinearOwnedReusable
use Rattle.linear_pools.specs.contracts.linear_owned_reusable.LinearOwnedReusable.TheInside as OwnedInside
use Rattle.linear_pools.proofs.linear_object_pool.LinearObjectPool.TheSendSync as pool
use Rattle.page_chain.proofs.NumberShared.{number_sync}
use Rattle.pool_parts.proofs.SlotShared.{holding_sync, slot_sync}

module _ (T I R K : RattleType) (answers : Init.Ghosts I.Denot T.Denot K.Denot)
    (leaves : Reset.Ghosts R.Denot T.Denot K.Denot) (clean : Ghosts K.Denot T.Denot) where
  pub reusable_sync : (κ : NamedLft) → IsSend T → IsSync T → IsSync I → IsSync R
      → IsSync (LinearReusable.the_row κ T I R K answers leaves clean)
  reusable_sync κ sent shared init reset =
      let type = Inside.the_type κ T I R K answers leaves clean in
      let pool_shared = shr_sync _ _ _ (pool.the_sync T I R K answers leaves clean sent init reset) in
      let slot_shared = slot_sync T (MadeOrReset.the_row I R K) _ κ sent shared in
      view_sync (Inside.the_row κ T I R K answers leaves clean) _ _ _ _ (record {
        shared = λ reusable.
            (struct_sync (shape type) (
              pool_shared,
              (
                record { shared = slot_shared.shared },
                (number_sync T (MadeOrReset.the_row I R K) (AnswerOf.the_row I K) _ _, tt),
              ),
            )).shared (type.to reusable);
      })

  pub owned_reusable_sync : IsSend T → IsSync T → IsSend I → IsSync I → IsSend R → IsSync R
      → IsSync (LinearOwnedReusable.the_row T I R K answers leaves clean)
  owned_reusable_sync sent shared init_sent init_shared reset_sent reset_shared =
      let type = OwnedInside.the_type T I R K answers leaves clean in
      let owner = Arc-sync (LinearObjectPool.the_row T I R K answers leaves clean)
      (pool.the_send T I R K answers leaves clean sent init_sent reset_sent)
      (pool.the_sync T I R K answers leaves clean sent init_shared reset_shared) in
      view_sync (OwnedInside.the_row T I R K answers leaves clean) _ _ _ _ (record {
        shared = λ reusable.
            (struct_sync (shape type) (
              record { shared = owner.shared },
              (
                holding_sync T sent,
                (
                  number_sync T (MadeOrReset.the_row I R K) (AnswerOf.the_row I K) _ _,
                  (record { shared = shared.shared }, tt),
                ),
              ),
            )).shared (type.to reusable);
      })
