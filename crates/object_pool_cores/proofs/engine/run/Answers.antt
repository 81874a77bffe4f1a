use Rattle.object_pool_cores.proofs.engine.run.Goals as goal

pub returns-in-Zero : goal.returns-in-Zero
returns-in-Zero g c = rw c.in-Zero.is (rw c.new.ensures at c.run_on.ensures)

pub returns-in-Keep : goal.returns-in-Keep
returns-in-Keep g c = rw c.in-Keep.is c.run_on-in-Keep.ensures
