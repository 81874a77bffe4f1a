-- That a pull takes the least free number, grows the core if none is free, and then finds one. It
-- probes few pages.
use Rattle.std.proofs.Common.{refl, ◌∙◌}
use Rattle.object_pool_cores.proofs.LeastChoiceSteps.{free-first, PullsLeast-grown}
use Rattle.object_pool_cores.proofs.Cores.FewProbes.{ProbesFew-taken, ProbesFew-none, ProbesFew-grown}
use Rattle.object_pool_cores.proofs.sequential.linear_core.LinearCoreSequentialPool.pull.Goals as goal

pub returns-in-Some-clause-probes : goal.returns-in-Some-clause-probes
returns-in-Some-clause-probes g c =
    let taken = c.in-Some.ensures in
    ProbesFew-taken _ _ _ _ taken.before taken.least.2 taken.probes

pub returns-in_err-grow-clause-probes : goal.returns-in_err-grow-clause-probes
returns-in_err-grow-clause-probes g c =
    let full = c.in_default.ensures in
    rw c.in_err-grow.ensures.err (ProbesFew-none _ _ full.before full.none full.probes)

pub returns-clause-step : goal.returns-clause-step
returns-clause-step g c =
    let full = c.in_default.ensures in
    let taken = c.in-Some-take_least.ensures in
    let grows = rw (full.none.places, full.limit) at c.in_ok-grow.ensures.ok in
    record {
      step = record {
        before = full.before;
        after = taken.after;
        limit = taken.limit ∙ c.in_ok-grow.ensures.kept ∙ full.limit;
        init = refl;
        reset = refl;
      };
      pulled =
          (taken.least.0, taken.least.1, PullsLeast-grown _ _ _ _ _ _ _ full.none.exhausted grows taken.least.2.takes);
    }

pub returns-clause-probes : goal.returns-clause-probes
returns-clause-probes g c =
    let full = c.in_default.ensures in
    let grew = c.in_ok-grow.ensures in
    let taken = c.in-Some-take_least.ensures in
    let grows = rw (full.none.places, full.limit) at grew.ok in
    ProbesFew-grown _ _ _ _ _ _ _ full.before full.none full.probes grows grew.start grew.looked taken.least.2
    taken.probes

pub unreachable-requires : goal.unreachable-requires
unreachable-requires g c =
    let added = free-first _ _ _ _ c.in_ok-grow.ensures.ok in
    c.in-None.ensures.none.exhausted _ added.0 added.1
