use Rattle.page_chain.specs.WalkSteps.{IsFullAt}
use Rattle.std.proofs.Common.{subst}
use Rattle.page_chain.specs.Walk.{known_link}
use Rattle.page_chain.specs.Links.{IsLinkTo}
use Rattle.page_chain.proofs.LinkPlaces.{one_link}
use Rattle.page_chain.proofs.linear_page.linked_page.LinearPage.take_at.Goals as goal

pub into_seen-requires : goal.into_seen-requires
into_seen-requires g c =
    let links = c.args.self.now.directory.now in
    let known = c.in-Some.known in
    let full : IsFullAt {opens = g.O.Clean} links known = rw c.in-Some.ensures.same at c.requires.full in
    one_link links c.args.number (known_link known.note) (known_link c.args.note.now)
    (subst (λ number. IsLinkTo links number (known_link known.note)) c.in-Some.ensures.here full.is_known.is_link)
    c.requires.linked.is_link
