-- That a pull which goes round the words takes a free item, or finds that the pool was full at one
-- moment (or 2^32 returns came meanwhile). It makes at most one pass, one more for each return, and
-- one more if it fails.
use Rattle.std.proofs.Common.{◌+◌, ◌∙◌, arith, subst}
use Rattle.fixed_pools.specs.FixedCount.{is_beside, Tallies}
use Rattle.fixed_pools.specs.FixedPool.{pool_of}
use Rattle.fixed_pools.proofs.FixedCounts.{reads_none, reads_further, loaded_reads, missed_reads, passes_all, takes_later}
use Rattle.fixed_pools.proofs.FixedRounds.{passed_once, passed_again, passed_reads, found_full_again, counts_came_round}
use Rattle.fixed_pools.proofs.FixedRounds.{goes_again, one_pass_more, taken_within, refused_within, rounds_within}
use Rattle.fixed_pools.proofs.fixed_object_pool.items.FixedItems.take_further.Goals as goal
use Rattle.fixed_pools.proofs.fixed_object_pool.items.FixedItems.take_further.Goals.{else-word-eq0-via-then-word-eq0+else-after-before, else-word-eq0-via-else-word-eq0}

pub returns-in-Ok-clause-outcome : goal.returns-in-Ok-clause-outcome
returns-in-Ok-clause-outcome g c =
    takes_later g.K.Clean.meets _ _ _ _ _ _ (missed_reads _ _ _ _ c.requires.missed.missed) c.in-Ok.ensures.outcome

pub loop-init : goal.loop-init
loop-init g c =
    let ready = c.requires.ready.may_take in
    let first = c.requires.missed in
    let others = c.in-Err.ensures.steps in
    let all = passes_all (pool_of c.args.self.now) c.args.start _ _ _ _ (omega (arith, c.args.self.now.shared.covered))
    first.missed c.in-Err.ensures.outcome in
    record {
      passed = passed_once _ _ _ _ _ _ c.requires.in_pool (reads_none c.args.first.value.me ready.here ready.sound)
          all.missed all.counted;
      steps = record {
        same_pool = others.same_pool ∙ first.same_pool;
        loads = omega (arith, others.loads, first.loads, c.requires.in_pool);
        tries = omega (arith, others.tries, first.tries, c.requires.in_pool);
      };
    }

pub returns-in-Ok-take_in_pass-clause-steps : goal.returns-in-Ok-take_in_pass-clause-steps
returns-in-Ok-take_in_pass-clause-steps g c =
    let before = c.loop.invariant in
    let read = c.count-word.ensures.found in
    goes_again _ _ _ _ _ _ _ before.steps c.count-word.ensures.items read.loads read.tries
    c.in-Ok-take_in_pass.ensures.steps
    (taken_within g.K.Clean.meets _ _ _ _ c.loop.counter _ _ _ _ _ _ c.requires.in_pool
    (omega (arith, c.args.self.now.shared.covered)) before.passed (loaded_reads _ _ _ _ _ _ read)
    c.in-Ok-take_in_pass.ensures.outcome)

pub returns-in-Ok-take_in_pass-clause-outcome : goal.returns-in-Ok-take_in_pass-clause-outcome
returns-in-Ok-take_in_pass-clause-outcome g c =
    let read = c.count-word.ensures.found in
    takes_later g.K.Clean.meets _ _ _ _ _ _
    (reads_further _ _ _ (passed_reads _ _ _ _ _ _ _ c.loop.invariant.passed) (loaded_reads _ _ _ _ _ _ read))
    c.in-Ok-take_in_pass.ensures.outcome

pub returns-then-after-before-clause-steps : goal.returns-then-after-before-clause-steps
returns-then-after-before-clause-steps g c =
    let before = c.loop.invariant in
    let read = c.count-word.ensures.found in
    let pass = c.in-Err-take_in_pass.ensures in
    goes_again _ _ _ _ _ _ _ before.steps c.count-word.ensures.items read.loads read.tries pass.steps
    (refused_within _ _ _ _ c.loop.counter _ _ _ _ c.requires.in_pool before.passed (loaded_reads _ _ _ _ _ _ read)
    pass.outcome.missed)

pub returns-then-after-before-clause-outcome : goal.returns-then-after-before-clause-outcome
returns-then-after-before-clause-outcome g c =
    let items = c.args.self.now in
    let second = c.in-Err-take_in_pass.ensures.outcome in
    found_full_again _ _ _ c.loop.before _ _ _ _ _ _ _ c.requires.in_pool (omega (arith, items.shared.covered))
    c.loop.invariant.passed c.count-word.ensures.found c.if-word-eq0.true second.missed
    (subst (λ sum. Tallies (is_beside 0 (pool_of items).words c.args.start) sum c.count-word.new.seat.me.0
    c.take_in_pass.new.seat.me.0) c.if-after-before.true second.counted)

pub loop-preserved : goal.loop-preserved
loop-preserved g c =
    let before = c.loop.invariant in
    let read = c.count-word.ensures.found in
    let pass = c.in-Err-take_in_pass.ensures in
    let one_more = one_pass_more (pool_of c.args.self.now).words (c.loop.counter + 1) in
    record {
      passed = passed_again _ _ _ c.loop.before _ _ _ _ _ _ _ _ c.requires.in_pool before.passed read
          (omega (arith, c.count-word.type_inv)) pass.outcome.missed pass.outcome.counted
          (λ full. elim c.else-word-eq0.branch [
            | else-word-eq0-via-then-word-eq0+else-after-before w ↦ w.if-after-before.false full.1
            | else-word-eq0-via-else-word-eq0 w ↦ w.if-word-eq0.false full.0
          ]);
      steps = goes_again _ _ _ _ _ _ _ before.steps c.count-word.ensures.items read.loads read.tries pass.steps
          (omega (arith, one_more));
    }

pub returns-clause-steps : goal.returns-clause-steps
returns-clause-steps g c =
    let before = c.loop.invariant in
    let steps = before.steps in
    let within = rounds_within _ _ _ _ c.loop.counter _ _ c.requires.in_pool before.passed in
    record {
      same_pool = steps.same_pool;
      loads = omega (arith, within, steps.loads);
      tries = omega (arith, within, steps.tries);
    }

pub returns-clause-outcome : goal.returns-clause-outcome
returns-clause-outcome g c =
    let end = c.loop.auto.counter-end in
    counts_came_round _ _ _ _ c.loop.counter _ _ c.requires.in_pool c.loop.invariant.passed (omega arith)
