use Rattle.std.proofs.Common.{sym, ◌∙◌}
use Rattle.std.proofs.lemmas.Option.{none-some}
use Rattle.page_chain.proofs.LinkPlaces.{knows_link}
use Rattle.page_chain.proofs.linear_page.directory.Directory.linked_page.Goals as goal

pub into_note-note-requires : goal.into_note-note-requires
into_note-note-requires g c =
    let here = rw c.get.ensures at c.place-place.ensures in
    (knows_link g.row.T.coded _ _ _ _ c.requires here).in_row

pub get_as-requires : goal.get_as-requires
get_as-requires g c =
    let here = rw c.get.ensures at c.place-place.ensures in
    let note = c.into_note-note.ensures in
    (λ i. (note.row i, note.offset i)) ∙ (knows_link g.row.T.coded _ _ _ _ c.requires here).place

pub unreachable-requires : goal.unreachable-requires
unreachable-requires g c =
    let here = rw c.get.ensures at c.place-place.ensures in
    let known = c.into_note-note.ensures.next ∙ (knows_link g.row.T.coded _ _ _ _ c.requires here).leads_here in
    none-some _ (sym c.in_default.ensures.none ∙ known)

pub returns : goal.returns
returns g c =
    let here = rw c.get.ensures at c.place-place.ensures in
    let known = c.into_note-note.ensures.next ∙ (knows_link g.row.T.coded _ _ _ _ c.requires here).leads_here in
    sym (rw known at c.in-Some.ensures.agrees)
