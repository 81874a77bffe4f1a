use Rattle.std.proofs.Common.{◌≡◌, ◌+◌, ◌-◌, ◌<◌, IfSome, arith, subst, inr}
use Rattle.page_chain.specs.Walk.{shown_page}
use Rattle.page_chain.proofs.linear_page.linked_page.LinearPage.walk_on.Goals as goal

pub returns-then-is_last-clause-refused : goal.returns-then-is_last-clause-refused
returns-then-is_last-clause-refused g c =
    let kept = c.loop-pass.invariant in
    let start = shown_page {opens = g.O.Clean} c.args.self.now in (
      _,
      c.is_last.ensures.last c.if-is_last.true,
      record {
        last = omega (arith, c.get-number.ensures, kept.from_start);
        page = _;
        on_page = kept.on_page;
        all_out = kept.full;
      },
    )

pub loop-pass-preserved : goal.loop-pass-preserved
loop-pass-preserved g c =
    let links = c.args.self.now.directory.now in
    let kept = c.loop-pass.invariant in
    let here = c.get-number.ensures in
    let next = c.of_link-at.ensures.number in
    let start = shown_page {opens = g.O.Clean} c.args.self.now in
    let further : c.get-number.result - c.args.self.now.number + 1 ≡ c.of_link-at.result.number - c.args.self.now.number
    = omega (arith, kept.from_start, here, next) in
    record {
      from_start = omega (arith, kept.from_start, here, next);
      full = c.in-Full.ensures.answer;
      on_page = inr (c.of_link-at.ensures.linked _ _ c.in-Full.ensures.linked);
      hinted = c.in-Full.ensures.full;
      within = subst (λ passed. IfSome c.args.limit (λ pages. passed < pages)) further
          (c.is_last.ensures.not_last c.if-is_last.false);
    }
