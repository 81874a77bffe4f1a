use Rattle.std.proofs.Common.{◌≡◌, Some, sym, ap, ◌∙◌, subst}
use Rattle.fixed_pools.specs.FixedPool.{fixed_view}
use Rattle.pool_parts.specs.Item.{IsFilled}
use Rattle.fixed_pool_c.specs.Shows.{PlacePool}
use Rattle.fixed_pool_c.proofs.open_handle.OpenHandle.first.Goals as goal

pub returns-in-Some : goal.returns-in-Some
returns-in-Some c =
    let same = c.in-Ok-new.ensures.ok in
    let made = c.in-Ok.ensures in
    record {
      pool = _;
      opens = c.in-Some.ensures;
      count = ap (λ (pool : PlacePool). (fixed_view pool).items) same ∙ made.items;
      pages = ap (λ (pool : PlacePool). (fixed_view pool).pages) same ∙ made.pages;
      free = subst (λ (pool : PlacePool). IsFilled c.args.items
          (λ value. Some value ≡ Some tt) (fixed_view pool).opening) (sym same) made.opened;
    }
