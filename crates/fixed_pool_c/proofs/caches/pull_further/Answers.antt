use Rattle.std.proofs.Common.{subst}
use Rattle.fixed_pool_c.specs.Caches.{PullsFurther}
use Rattle.fixed_pool_c.proofs.caches.pull_further.Goals as goal

pub returns : goal.returns
returns c =
    let further = c.pull_further-answer in (
      further.new.self,
      c.put.ensures,
      subst (λ held. PullsFurther further.result held further.new.self further.new.place) c.deref_mut.ensures.value
          further.ensures,
    )
