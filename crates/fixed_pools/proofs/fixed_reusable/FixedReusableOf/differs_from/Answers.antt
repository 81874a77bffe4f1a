use Rattle.std.proofs.Common.{refl}
use Rattle.fixed_pools.proofs.fixed_reusable.FixedReusableOf.differs_from.Goals as goal

pub returns-clause-same : goal.returns-clause-same
returns-clause-same g c = rw (← c.self.view_is) record {
  item = c.are_two.ensures.same_one.same_item c.self.inside.value;
  pool = refl;
}

pub returns-clause-same_other : goal.returns-clause-same_other
returns-clause-same_other g c = rw (← c.other.view_is) record {
  item = c.are_two.ensures.same_other.same_item c.other.inside.value;
  pool = refl;
}
