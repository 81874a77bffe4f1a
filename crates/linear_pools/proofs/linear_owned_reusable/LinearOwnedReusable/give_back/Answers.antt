use Rattle.linear_pools.proofs.linear_owned_reusable.LinearOwnedReusable.give_back.Goals as goal

pub give-requires-clause-on_page : goal.give-requires-clause-on_page
give-requires-clause-on_page g c = rw c.deref-2.ensures c.self.invariant.0

pub returns-clause-given : goal.returns-clause-given
returns-clause-given g c = rw (← c.self.view_is) record {
  left = c.reset.new.value;
  by_reset = rw (← c.deref.ensures) c.reset.ensures.leaves;
  returned = c.give.ensures.returned;
}
