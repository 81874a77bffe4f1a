use Rattle.std.proofs.Common.{arith}
use Rattle.pool_parts.proofs.WordBits.{all_free}
use Rattle.pool_parts.proofs.page.shared_page.Page.new.Goals as goal

pub new-requires-clause-all_free : goal.new-requires-clause-all_free
new-requires-clause-all_free g c = all_free 0 32 (omega arith) (omega arith)
