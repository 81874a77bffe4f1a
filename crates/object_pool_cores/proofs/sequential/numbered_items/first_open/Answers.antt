use Rattle.std.proofs.Common.{arith, length, refl, rules}
use Rattle.std.proofs.lemmas.Option.{slice_get_within, slice_get_read}
use Rattle.object_pool_cores.proofs.Cores.PagedPlaces.{HasNoneBelow-full}
use Rattle.object_pool_cores.proofs.sequential.numbered_items.first_open.Goals as goal

pub loop-at-preserved : goal.loop-at-preserved
loop-at-preserved g c =
    let so_far = c.loop-at.invariant in
    let within = c.loop-at-test.true in
    let page = slice_get_read c.args.pages.now (length c.args.pages.now) c.loop-at.at _ refl
    (omega (arith, within)) c.index-pages-at.is in
    record {
      from = omega (arith, so_far.from);
      up_to = omega (arith, within);
      passed = HasNoneBelow-full c.args.pages.now c.loop-at.at _ c.requires.whole page
          (c.is_full.ensures.0 (search rules)) so_far.passed;
      more = omega (arith, so_far.more, c.saturating_add-looked.ensures);
      each = omega (arith, within, so_far.from, so_far.each, c.saturating_add-looked.ensures);
    }

pub returns-clause-open : goal.returns-clause-open
returns-clause-open g c = λ page here. let within = slice_get_within c.args.pages.now c.loop-at.at page here in
    let past = c.loop-at-test.false in absurd (omega arith)
