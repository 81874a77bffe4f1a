use Rattle.object_pool_cores.proofs.Cores.KeptWord.{IsKept-made}
use Rattle.object_pool_cores.proofs.sequential.core_page.CorePage.new.Goals as goal

pub invariant_of-result : goal.invariant_of-result
invariant_of-result g c = IsKept-made _ g.K.Clean.meets _ c.in_ok-made_items.ensures.made
