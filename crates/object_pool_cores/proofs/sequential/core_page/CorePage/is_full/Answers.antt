use Rattle.std.proofs.Common.{arith}
use Rattle.std.proofs.lemmas.Bool.{eqb-true, eq-eqb}
use Rattle.object_pool_cores.proofs.Cores.KeptWord.{HasNoFreeId-zero, zero-HasNoFreeId}
use Rattle.object_pool_cores.proofs.sequential.core_page.CorePage.is_full.Goals as goal

pub returns : goal.returns
returns g c = rw (← c.self.view_is) (
  λ none. HasNoFreeId-zero g.K.Clean.meets _ _ c.self.invariant (eqb-true _ 0 none),
  λ none. eq-eqb _ 0 (zero-HasNoFreeId g.K.Clean.meets _ _ c.self.invariant (omega arith) none),
)
