use Rattle.linear_pools.proofs.linear_reusable.LinearReusable.give_back.Goals as goal

pub returns-clause-given : goal.returns-clause-given
returns-clause-given g c = rw (← c.self.view_is) (rw (← c.slot.view_is) record {
  left = c.reset.new.value;
  by_reset = c.reset.ensures.leaves;
  returned = c.give_slot.ensures.returned;
})
