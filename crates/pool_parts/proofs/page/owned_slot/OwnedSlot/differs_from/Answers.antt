use Rattle.pool_parts.proofs.page.owned_slot.OwnedSlot.differs_from.Goals as goal

pub returns-clause-same_item : goal.returns-clause-same_item
returns-clause-same_item g c = rw (← c.self.view_is) (c.are_two.ensures.same_one.same_item c.self.inside.value)

pub returns-clause-same_other : goal.returns-clause-same_other
returns-clause-same_other g c = rw (← c.other.view_is) (c.are_two.ensures.same_other.same_item c.other.inside.value)
