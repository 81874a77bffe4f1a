use Rattle.std.proofs.Common.{◌≤◌, ◌-◌, ◌*◌, length}
use Rattle.object_pool_cores.specs.PageProbes.{ProbesEach}
use Rattle.object_pool_cores.specs.Inside.Numbered.{HasNoneBelow, laid_out}
use Rattle.object_pool_cores.proofs.sequential.numbered_items.first_open.Given as goal

-- the pages from the start up to this one were probed once each, and are full
abbrev pub invariant-loop-at : goal.invariant-loop-at
invariant-loop-at g l = record {
  from : l.start ≤ l.at;
  up_to : l.at ≤ length l.pages;
  passed : HasNoneBelow (laid_out l.pages) (32 * l.at);
  more : l.fn.looked ≤ l.looked;
  each : ProbesEach (l.at - l.start) l.fn.looked l.looked;
}

abbrev pub decreases-loop-at : goal.decreases-loop-at
decreases-loop-at g l = length l.pages - l.at
