use Rattle.object_pool_cores.proofs.Cores.KeptWord.{IsFreeId-lowest, IsCorePage-taken, TakesLeastId-lowest}
use Rattle.object_pool_cores.proofs.sequential.core_page.CorePage.alloc.Goals as goal

pub invariant_of-self : goal.invariant_of-self
invariant_of-self g c =
    rw (c.take.ensures.after, c.from.ensures)
    (IsCorePage-taken g.K.Clean.meets _ _ c.self.invariant _ _ c.in_ok-word.ensures.rest)

pub returns-clause-least : goal.returns-clause-least
returns-clause-least g c =
    let lowest = c.in_ok-word.ensures.least in
    let free = IsFreeId-lowest g.K.Clean.meets _ _ c.self.invariant _ _ c.in-Some.value lowest
    (rw c.from.ensures at c.index_mut.ensures.value) c.in-Some.ensures.value in
    rw (c.take.ensures.after, c.from.ensures, ← c.self.view_is)
    (TakesLeastId-lowest g.K.Clean.meets _ _ c.self.invariant _ _ lowest free)

pub returns-clause-meets : goal.returns-clause-meets
returns-clause-meets g c =
    c.self.invariant.clean _ _ (IsFreeId-lowest g.K.Clean.meets _ _ c.self.invariant _ _ c.in-Some.value
    c.in_ok-word.ensures.least (rw c.from.ensures at c.index_mut.ensures.value) c.in-Some.ensures.value)
