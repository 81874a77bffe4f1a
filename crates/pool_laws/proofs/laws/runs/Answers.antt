use Rattle.pool_world.proofs.Runs.{run-acts}
use Rattle.pool_laws.proofs.SameRun.{has-run}
use Rattle.pool_laws.proofs.laws.runs.Goals as goal

pub returns : goal.returns
returns g c = record {
  is_pool = λ reset limit first acts run. run-acts (g.R.Reset.leaves reset) limit first acts run;
  has_run = λ reset limit first acts legal left allowed. has-run (g.R.Reset.leaves reset) first limit acts left allowed legal;
}
