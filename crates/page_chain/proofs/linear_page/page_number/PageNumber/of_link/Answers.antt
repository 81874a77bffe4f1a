use Rattle.page_chain.proofs.LinkPlaces.{linked_at}
use Rattle.page_chain.proofs.linear_page.page_number.PageNumber.of_link.Goals as goal

pub returns-clause-linked : goal.returns-clause-linked
returns-clause-linked g c = λ links page known. linked_at links c.args.number c.args.note page known
