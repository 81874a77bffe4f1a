use Rattle.std.proofs.Common.{subst}
use Rattle.pool_parts.specs.Page.{view_of}
use Rattle.lockfree_object_pool.specs.Ledger.{IsPrefixOf}
use Rattle.pool_parts.proofs.Ledger.{prefix_further}
use Rattle.test_lockfree_object_pool.proofs.fixed_object_pool.pulled_after_both.Goals as goal

pub returns-clause-after_first : goal.returns-clause-after_first
returns-clause-after_first c = prefix_further _ _ _ c.tell.ensures.from_own c.in-Some.ensures.after

pub returns-clause-after_second : goal.returns-clause-after_second
returns-clause-after_second c =
    let told = subst (λ history. IsPrefixOf history (view_of c.tell.new.note.seat).operations)
    c.into_witness.ensures.history
    c.tell.ensures.from_told in
    prefix_further _ _ _ told c.in-Some.ensures.after
