use Rattle.std.proofs.Common.{subst}
use Rattle.pool_parts.specs.Page.{view_of}
use Rattle.page_chain.specs.Ledger.{IsPrefixOf}
use Rattle.pool_parts.proofs.Ledger.{comparable}
use Rattle.test_pages.proofs.page.histories.compared.Goals as goal

pub returns-clause-compared : goal.returns-clause-compared
returns-clause-compared c =
    let told = subst (λ history. IsPrefixOf history (view_of c.tell.new.note.seat).operations)
    c.into_witness.ensures.history
    c.tell.ensures.from_told in
    comparable (view_of c.args.one.seat).operations (view_of c.args.other.seat).operations
    (view_of c.tell.new.note.seat).operations
    c.tell.ensures.from_own told
