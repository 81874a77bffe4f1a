use Rattle.std.proofs.Common.{◌-◌}
use Rattle.page_chain.proofs.linear_page.directory.Directory.hinted.Given as goal

abbrev pub decreases-loop-from : goal.decreases-loop-from
decreases-loop-from g l = 64 - l.from
