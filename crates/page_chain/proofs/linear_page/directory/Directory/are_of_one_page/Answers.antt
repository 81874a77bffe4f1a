use Rattle.std.proofs.Common.{sym, ◌∙◌}
use Rattle.page_chain.proofs.LinkPlaces.{knows_link}
use Rattle.page_chain.proofs.linear_page.directory.Directory.are_of_one_page.Goals as goal

pub into_note-note-requires : goal.into_note-note-requires
into_note-note-requires g c =
    let here = rw c.get.ensures at c.place-place.ensures in
    (knows_link g.row.T.coded _ _ _ _ c.requires.one here).in_row

pub into_note-known-requires : goal.into_note-known-requires
into_note-known-requires g c =
    let here = rw (c.get.ensures ∙ sym c.requires.same_number) at c.place-place.ensures in
    (knows_link g.row.T.coded _ _ _ _ c.requires.other here).in_row

pub compare-requires : goal.compare-requires
compare-requires g c =
    let here = rw c.get.ensures at c.place-place.ensures in
    let there = rw (c.get.ensures ∙ sym c.requires.same_number) at c.place-place.ensures in
    let one = c.into_note-note.ensures in
    let other = c.into_note-known.ensures in
    (λ i. (other.row i, other.offset i)) ∙ (knows_link g.row.T.coded _ _ _ _ c.requires.other there).place
    ∙ sym ((λ i. (one.row i, one.offset i)) ∙ (knows_link g.row.T.coded _ _ _ _ c.requires.one here).place)

pub returns : goal.returns
returns g c =
    let here = rw c.get.ensures at c.place-place.ensures in
    let there = rw (c.get.ensures ∙ sym c.requires.same_number) at c.place-place.ensures in
    let one = c.into_note-note.ensures.next ∙ (knows_link g.row.T.coded _ _ _ _ c.requires.one here).leads_here in
    let other = c.into_note-known.ensures.next ∙ (knows_link g.row.T.coded _ _ _ _ c.requires.other there).leads_here in
    sym (rw (other, one) at c.compare.ensures.agree)
