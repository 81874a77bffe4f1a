-- A lazy reusable may be shared among threads where its value and what it has of its pool may.
use mir.Syntax.{Lifetime}
use base.Fml.{Lft}
use denote.RattleType.{RattleType}
use denote.Ref.{ShrRef}
use denote.Param.Send.{IsSend, IsSync, shr_sync, view_sync, sendable}
use denote.Param.SendFields.{as_row_sync, declared_sync}
use denote.Struct.Field.{row_field}
use Rattle.std.specs.Arc.{arc_value}
use Rattle.std.proofs.Crossing.{crosses, Arc-sync}
use Rattle.std.specs.contracts.option.Option as OptionRow
use Rattle.std.specs.contracts.sync.Arc as Arc
use Rattle.std.specs.contracts.alloc.Global as Global
use Rattle.std.specs.contracts.impls.GlobalAllocator.TheImpl as GlobalAllocator
use Rattle.lazy_pools.specs.LazyPool.{lazy_view}
use Rattle.pool_parts.specs.declared.clean.Clean as Clean
use Rattle.pool_parts.specs.declared.closures.Init as Init
use Rattle.pool_parts.specs.declared.closures.Reset as Reset
use Rattle.lazy_pools.specs.declared.lazy_reusable.SharedLazyPool.{Ghosts}
use Rattle.lazy_pools.specs.contracts.lazy_object_pool.LazyObjectPool as LazyObjectPool
use Rattle.pool_parts.specs.contracts.page.holding.Holding as Holding
use Rattle.lazy_pools.specs.contracts.lazy_reusable.LazyReusableOf.TheInside as Inside
use Rattle.lazy_pools.specs.contracts.lazy_reusable.LazyReusableOf as LazyReusableOf
use Rattle.lazy_pools.proofs.lazy_object_pool.LazyObjectPool.TheSendSync as lazy_pool
use Rattle.pool_parts.proofs.SlotShared.{holding_sync}

module _ (T I R K : RattleType) (answers : Init.Ghosts I.Denot T.Denot K.Denot)
    (leaves : Reset.Ghosts R.Denot T.Denot K.Denot) (clean : Clean.Ghosts K.Denot T.Denot) where
  pub reusable_sync : (P : RattleType) (pool : Ghosts P.Denot T.Denot I.Denot R.Denot K.Denot) → IsSend T → IsSync T
      → IsSync P → IsSync (LazyReusableOf.the_row T P I R K pool answers leaves clean)
  reusable_sync P pool sent shared pool_shared =
      let place = OptionRow.the_row T in
      let place_sent : IsSend place = search (sendable, crosses) depth 20 in
      view_sync (Inside.the_row T P I R K pool answers leaves clean) _ _ _ _
      (declared_sync (Inside.the_type T P I R K pool answers leaves clean) (
        as_row_sync (row_field P) pool_shared,
        (
          as_row_sync (Holding.the_field place) (holding_sync place place_sent),
          (as_row_sync (row_field T) shared, tt),
        ),
      ))

  -- a borrow of the pool, and an owner
  abbrev borrow : Lifetime → Lft → RattleType
  borrow ℓ κ = ShrRef ℓ κ (LazyObjectPool.the_row T I R K answers leaves clean)

  abbrev owner : RattleType
  owner = Arc.the_row (LazyObjectPool.the_row T I R K answers leaves clean) Global.the_row GlobalAllocator.ghosts

  -- what contracts see of the pool
  abbrev borrowed : (ℓ : Lifetime) (κ : Lft) → Ghosts (borrow ℓ κ).Denot T.Denot I.Denot R.Denot K.Denot
  borrowed ℓ κ = record { shown = λ pool. lazy_view pool.now }

  abbrev owned : Ghosts owner.Denot T.Denot I.Denot R.Denot K.Denot
  owned = record { shown = λ pool. lazy_view (arc_value pool) }

  -- a borrowed one may where its value may, and what makes and resets its pool's values; and an owned one
  pub borrowed_reusable_sync : (ℓ : Lifetime) (κ : Lft) → IsSend T → IsSync T → IsSync I → IsSync R
      → IsSync (LazyReusableOf.the_row T (borrow ℓ κ) I R K (borrowed ℓ κ) answers leaves clean)
  borrowed_reusable_sync ℓ κ sent shared init reset =
      reusable_sync (borrow ℓ κ) (borrowed ℓ κ) sent shared
      (shr_sync ℓ κ _ (lazy_pool.the_sync T I R K answers leaves clean sent init reset))

  pub owned_reusable_sync : IsSend T → IsSync T → IsSend I → IsSync I → IsSend R → IsSync R
      → IsSync (LazyReusableOf.the_row T owner I R K owned answers leaves clean)
  owned_reusable_sync sent shared init_sent init_shared reset_sent reset_shared =
      reusable_sync owner owned sent shared
      (Arc-sync (LazyObjectPool.the_row T I R K answers leaves clean)
      (lazy_pool.the_send T I R K answers leaves clean sent init_sent reset_sent)
      (lazy_pool.the_sync T I R K answers leaves clean sent init_shared reset_shared))
