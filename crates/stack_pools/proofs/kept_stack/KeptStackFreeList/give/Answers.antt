use Rattle.std.proofs.Common.{[], ◌∷◌, sym, subst, ap, IfSome}
use Rattle.history_lock.specs.History.{IsPrefixOf}
use Rattle.stack_pools.specs.Sections.{return_to}
use Rattle.stack_pools.proofs.Notes.{goes_on}
use Rattle.stack_pools.proofs.kept_stack.KeptStackFreeList.give.Goals as goal

pub returns-clause-after : goal.returns-clause-after
returns-clause-after g c =
    let history = c.lock_after-stack.result.1.history in
    goes_on c.args.note c.of.result c.into_seen.result history c.into_seen.ensures c.lock_after-stack.ensures.after
    (subst (λ note. IfSome note (λ known. IsPrefixOf history known.history)) (sym c.of.ensures)
    (return_to c.put.new.self ∷ [], ap (λ known. known.history) c.release.ensures))
