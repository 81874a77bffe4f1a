use Rattle.std.proofs.Common.{IfSome, [], ◌∷◌, sym, subst, ap}
use Rattle.history_lock.specs.History.{IsPrefixOf}
use Rattle.stack_pools.specs.Sections.{pull_of}
use Rattle.stack_pools.specs.StackHistory.{kept_by}
use Rattle.stack_pools.proofs.kept_stack.taken.Goals as goal

pub returns-clause-after : goal.returns-clause-after
returns-clause-after g c =
    let history = c.args.turn.history in
    subst (λ note. IfSome note (λ known. IsPrefixOf history known.history)) (sym c.of.ensures)
    (pull_of (kept_by history) ∷ [], ap (λ known. known.history) c.release.ensures)
