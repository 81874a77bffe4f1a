use Rattle.object_pool_cores.proofs.Cores.KeptWord.{IsMask-kept}
use Rattle.object_pool_cores.proofs.sequential.core_page.CorePage.get_mask.Goals as goal

pub returns : goal.returns
returns g c = rw (← c.self.view_is) (IsMask-kept g.K.Clean.meets _ _ c.self.invariant)
