use Rattle.std.proofs.Common.{◌++◌}
use Rattle.pool_world.specs.Laws.WorldBounds.{looks-since_new}
use Rattle.test_pool_laws.proofs.run_bounded.Goals as goal

pub returns : goal.returns
returns g c =
    let past = c.run-result.ensures.past in
    let ran = c.run-result.ensures.run in
    let first = past.is_new.first in
    let full = past.is_new.full in
    let run = ran.headline past in
    let bounds = rw c.run-result.ensures.reset at c.bound_own_steps.ensures.own_steps in
    let legal = c.runs.ensures.is_pool _ _ first run.acts run.run in
    record {
      first = first;
      log = ran.log ++ past.log;
      run = run;
      order = c.part.ensures.order first run.acts full legal;
      pages = c.part.ensures.pages first run.acts full legal;
      looks = looks-since_new _ _ past ran.log _ ran.steps bounds;
    }
