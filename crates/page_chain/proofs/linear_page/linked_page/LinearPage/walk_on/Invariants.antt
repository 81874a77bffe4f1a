use Rattle.std.proofs.Common.{◌-◌, ◌≤◌, ◌<◌, IfSome}
use Rattle.std.specs.Arc.{arc_value}
use Rattle.pool_parts.specs.Page.{page_view}
use Rattle.pool_parts.specs.Slot.{IsFullPage}
use Rattle.page_chain.specs.Walk.{IsWalkedTo, shown_page}
use Rattle.page_chain.specs.WalkSteps.{IsFullAt}
use Rattle.page_chain.proofs.linear_page.linked_page.LinearPage.walk_on.Given as goal

abbrev pub invariant-loop-pass : goal.invariant-loop-pass
invariant-loop-pass g l = record {
  from_start : l.self.number ≤ l.at.number;
  full : IsFullPage (page_view (arc_value l.page)).identity l.full;
  on_page : IsWalkedTo (shown_page {opens = g.O.Clean} l.self) l.at (page_view (arc_value l.page));
  hinted : IfSome l.hinted (IsFullAt l.self.directory.now);
  within : IfSome l.limit (λ pages. l.at.number - l.self.number < pages);
}

abbrev pub decreases-loop-pass : goal.decreases-loop-pass
decreases-loop-pass g l = 18446744073709551616 - l.at.number
