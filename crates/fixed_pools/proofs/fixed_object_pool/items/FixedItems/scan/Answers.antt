-- That a user reads each word from one page up to another, but the skipped one, and takes a free
-- item there; or has seen all their items in use, and knows how many returns they count.
use Rattle.std.proofs.Common.{◌+◌, ◌<◌, refl, ◌∙◌, arith, sym, subst}
use Rattle.fixed_pools.specs.FixedCount.{is_beside, PassesOver}
use Rattle.fixed_pools.proofs.PoolWords.{one_behind, skipped_before}
use Rattle.fixed_pools.proofs.FixedCounts.{reads_none, reads_further, loaded_reads, takes_later, passes_none}
use Rattle.fixed_pools.proofs.FixedCounts.{passes_skip, passes_word, passes_join}
use Rattle.fixed_pools.proofs.fixed_object_pool.items.FixedItems.scan.Goals as goal

pub loop-page-init : goal.loop-page-init
loop-page-init g c =
    let ready = c.requires.ready.may_take in
    record {
      carries_none = ready.carries_none;
      holds_none = ready.holds_none;
      steps = record { same_pool = refl; loads = omega arith; tries = omega arith };
      fewer_steps = λ from to. absurd (omega arith);
      missed = passes_none c.args.from c.args.skipped c.args.seat.now.me
          (reads_none c.args.seat.now.me ready.here ready.sound);
    }

pub returns-in-Some-clause-outcome : goal.returns-in-Some-clause-outcome
returns-in-Some-clause-outcome g c =
    let before = c.loop-page.invariant.missed.reads_on in
    let read = loaded_reads _ _ _ _ _ _ c.count-word.ensures.found in
    takes_later g.K.Clean.meets _ _ _ _ _ _ (reads_further _ _ _ before read) c.in-Some.ensures.outcome

pub loop-page-preserved-then-page-skipped : goal.loop-page-preserved-then-page-skipped
loop-page-preserved-then-page-skipped g c =
    let before = c.loop-page.invariant in
    let steps = before.steps in
    let skip = c.if-page-skipped.true in
    let here = c.loop-page.auto.page in
    record {
      carries_none = before.carries_none;
      holds_none = before.holds_none;
      steps = record { same_pool = steps.same_pool; loads = omega arith; tries = omega arith };
      fewer_steps = λ from to. record { same_pool = steps.same_pool; loads = omega arith; tries = omega arith };
      missed = subst (λ page. PassesOver (is_beside c.args.from (page + 1) c.args.skipped) c.loop-page.returns
          c.args.seat.now.me c.loop-page.seat.me) (sym skip)
          (passes_skip c.args.from c.args.skipped c.loop-page.returns c.args.seat.now.me c.loop-page.seat.me
          (subst (λ page. PassesOver (is_beside c.args.from page c.args.skipped) c.loop-page.returns
          c.args.seat.now.me c.loop-page.seat.me) skip before.missed));
    }

pub loop-page-preserved : goal.loop-page-preserved
loop-page-preserved g c =
    let before = c.loop-page.invariant in
    let steps = before.steps in
    let counted = c.count-word.ensures.found in
    let loaded = counted in
    let own = c.in_default.ensures.outcome in
    let own_steps = c.take_lowest.ensures.steps in
    let here = c.loop-page.auto.page in
    let same_pool = c.take_lowest.ensures.items ∙ c.count-word.ensures.items ∙ steps.same_pool in
    record {
      carries_none = own.carries_same ∙ loaded.carries_same ∙ before.carries_none;
      holds_none = own.holds_same ∙ loaded.holds_same ∙ before.holds_none;
      steps = record { same_pool = same_pool; loads = omega arith; tries = omega arith };
      fewer_steps = λ from to.
          let past : c.args.skipped < c.loop-page.page =
          skipped_before c.args.skipped c.loop-page.page to (λ same. c.if-page-skipped.false (sym same)) in
          let fewer = before.fewer_steps from past in
          record { same_pool = same_pool; loads = omega arith; tries = omega arith };
      missed = passes_join _ _ _ (one_behind c.args.from c.loop-page.page c.args.skipped here c.if-page-skipped.false)
          _ _ _ _ _ before.missed (passes_word _ _ _ _ _ _ _ counted own);
    }
