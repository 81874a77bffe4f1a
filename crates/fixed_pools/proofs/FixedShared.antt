-- A fixed reusable may be shared among threads where its value and what it has of its pool may.
use mir.Syntax.{Lifetime}
use base.Fml.{Lft}
use denote.RattleType.{RattleType}
use denote.Ref.{ShrRef}
use denote.Param.Send.{IsSend, IsSync, shr_sync, view_sync}
use denote.Param.SendFields.{as_row_sync, declared_sync}
use denote.Struct.Field.{row_field}
use Rattle.std.specs.Arc.{arc_value}
use Rattle.std.proofs.Crossing.{Arc-sync}
use Rattle.std.specs.contracts.sync.Arc as Arc
use Rattle.std.specs.contracts.alloc.Global as Global
use Rattle.std.specs.contracts.impls.GlobalAllocator.TheImpl as GlobalAllocator
use Rattle.fixed_pools.specs.FixedPool.{fixed_view}
use Rattle.pool_parts.specs.declared.clean.Clean as Clean
use Rattle.pool_parts.specs.declared.closures.Init as Init
use Rattle.pool_parts.specs.declared.closures.Reset as Reset
use Rattle.fixed_pools.specs.declared.fixed_reusable.SharedFixedPool.{Ghosts}
use Rattle.fixed_pools.specs.contracts.fixed_object_pool.FixedObjectPool as FixedObjectPool
use Rattle.pool_parts.specs.contracts.page.holding.Holding as Holding
use Rattle.fixed_pools.specs.contracts.fixed_reusable.FixedReusableOf.TheInside as Inside
use Rattle.fixed_pools.specs.contracts.fixed_reusable.FixedReusableOf as FixedReusableOf
use Rattle.fixed_pools.proofs.fixed_object_pool.FixedObjectPool.TheSendSync as fixed_pool
use Rattle.pool_parts.proofs.SlotShared.{holding_sync}

module _ (T I R K : RattleType) (answers : Init.Ghosts I.Denot T.Denot K.Denot)
    (leaves : Reset.Ghosts R.Denot T.Denot K.Denot) (clean : Clean.Ghosts K.Denot T.Denot) where
  pub reusable_sync : (P : RattleType) (pool : Ghosts P.Denot T.Denot I.Denot R.Denot K.Denot) → IsSend T → IsSync T
      → IsSync P → IsSync (FixedReusableOf.the_row T P I R K pool answers leaves clean)
  reusable_sync P pool sent shared pool_shared =
      view_sync (Inside.the_row T P I R K pool answers leaves clean) _ _ _ _
      (declared_sync (Inside.the_type T P I R K pool answers leaves clean) (
        as_row_sync (row_field P) pool_shared,
        (as_row_sync (Holding.the_field T) (holding_sync T sent), (as_row_sync (row_field T) shared, tt)),
      ))

  -- a borrow of the pool, and an owner
  abbrev borrow : Lifetime → Lft → RattleType
  borrow ℓ κ = ShrRef ℓ κ (FixedObjectPool.the_row T I R K answers leaves clean)

  abbrev owner : RattleType
  owner = Arc.the_row (FixedObjectPool.the_row T I R K answers leaves clean) Global.the_row GlobalAllocator.ghosts

  -- what contracts see of the pool
  abbrev borrowed : (ℓ : Lifetime) (κ : Lft) → Ghosts (borrow ℓ κ).Denot T.Denot I.Denot R.Denot K.Denot
  borrowed ℓ κ = record { shown = λ pool. fixed_view pool.now }

  abbrev owned : Ghosts owner.Denot T.Denot I.Denot R.Denot K.Denot
  owned = record { shown = λ pool. fixed_view (arc_value pool) }

  -- a borrowed one may where its value may, and a reset of its pool; and an owned one
  pub borrowed_reusable_sync : (ℓ : Lifetime) (κ : Lft) → IsSend T → IsSync T → IsSync R
      → IsSync (FixedReusableOf.the_row T (borrow ℓ κ) I R K (borrowed ℓ κ) answers leaves clean)
  borrowed_reusable_sync ℓ κ sent shared reset =
      reusable_sync (borrow ℓ κ) (borrowed ℓ κ) sent shared
      (shr_sync ℓ κ _ (fixed_pool.the_sync T I R K answers leaves clean sent reset))

  pub owned_reusable_sync : IsSend T → IsSync T → IsSend R → IsSync R
      → IsSync (FixedReusableOf.the_row T owner I R K owned answers leaves clean)
  owned_reusable_sync sent shared reset_sent reset_shared =
      reusable_sync owner owned sent shared
      (Arc-sync (FixedObjectPool.the_row T I R K answers leaves clean)
      (fixed_pool.the_send T I R K answers leaves clean sent reset_sent)
      (fixed_pool.the_sync T I R K answers leaves clean sent reset_shared))
