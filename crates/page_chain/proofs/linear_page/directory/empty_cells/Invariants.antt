use Rattle.std.proofs.Common.{◌≡◌, length}
use Rattle.page_chain.proofs.linear_page.directory.empty_cells.Given as goal

abbrev pub invariant-loop : goal.invariant-loop
invariant-loop g l = length l.cells.items ≡ l.counter
