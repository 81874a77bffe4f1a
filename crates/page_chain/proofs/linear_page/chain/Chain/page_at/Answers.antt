use Rattle.page_chain.proofs.linear_page.chain.Chain.page_at.Goals as goal

pub page_of-requires : goal.page_of-requires
page_of-requires g c = rw c.again.ensures.again c.requires
