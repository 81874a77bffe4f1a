use Rattle.linear_pools.proofs.linear_owned_reusable.LinearOwnedReusable.witness.Goals as goal

pub page_at-page-requires : goal.page_at-page-requires
page_at-page-requires g c = rw c.deref.ensures c.self.invariant.0

pub invariant_of-self : goal.invariant_of-self
invariant_of-self g c = (
  rw c.page_at-page.ensures.same_number (rw c.witness.ensures.same_page (rw c.witness.ensures.same_view c.self.invariant.0)),
  rw c.witness.ensures.same_number c.self.invariant.1,
)
