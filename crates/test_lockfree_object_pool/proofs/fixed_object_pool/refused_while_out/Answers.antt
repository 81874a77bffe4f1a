use Rattle.test_lockfree_object_pool.proofs.fixed_object_pool.refused_while_out.Goals as goal

pub returns : goal.returns
returns c = c.in-Err.ensures.busy.each_was_out c.args.number c.requires
