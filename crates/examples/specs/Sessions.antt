-- What a table of sessions shows.
use Rattle.std.specs.Prelude.{ℕ, List, Option}
use Rattle.std.specs.BTreeMap.{get}
use Rattle.std.specs.Global.{Vec}
use Rattle.std.specs.Option.{option_map}
use Rattle.std.specs.Ordering.{nat_cmp}
use Rattle.std.specs.Arc.{arc_value}
use Rattle.linear_pools.specs.LinearPool.{linear_view}
use Rattle.pool_parts.specs.declared.clean.Empty.{Empty}
use Rattle.pool_parts.specs.declared.closures.vectors.Clear.{Clear}
use Rattle.pool_parts.specs.declared.closures.vectors.WithCapacity.{WithCapacity}
use Rattle.linear_pools.specs.declared.linear_owned_reusable.LinearOwnedReusable.{LinearOwnedReusable}
use Rattle.examples.specs.declared.sessions.Sessions.{Sessions}

-- a basket, as the pool hands it out
abbrev pub Basket : Type 0
Basket = LinearOwnedReusable (Vec ℕ) WithCapacity Clear Empty

-- the products in a basket
abbrev pub products_in : Basket → List ℕ
products_in basket = basket.item.value.items

-- the products of an open session
abbrev pub basket_of : Sessions → ℕ → Option (List ℕ)
basket_of sessions session = option_map products_in (get nat_cmp sessions.open session)

-- how many pages of baskets there may be
abbrev pub limit_of : Sessions → Option ℕ
limit_of sessions = (linear_view (arc_value sessions.pool)).limit
