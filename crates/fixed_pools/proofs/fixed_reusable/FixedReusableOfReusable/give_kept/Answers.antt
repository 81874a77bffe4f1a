use Rattle.std.proofs.Common.{refl}
use Rattle.pool_parts.proofs.PageAnswers.{returned}
use Rattle.fixed_pools.proofs.fixed_reusable.FixedReusableOfReusable.give_kept.Goals as goal

pub returns : goal.returns
returns g c = rw (← c.self.view_is) (returned _ _ _ _ _ _ refl c.give.ensures.pool c.give.ensures.returned)
