-- The number of a page in its chain may be shared among threads.
use denote.RattleType.{RattleType}
use denote.Param.Send.{IsSync, part_keyless, struct_sync, sendable}
use denote.Struct.Declared.{shape}
use Rattle.pool_parts.specs.declared.clean.Clean.{Ghosts}
use Rattle.once_cell.proofs.race.note.Note.TheSendSync as sent_note
use Rattle.once_cell.specs.contracts.race.note.Note as Note
use Rattle.page_chain.specs.contracts.linear_page.directory.Row as Row
use Rattle.page_chain.specs.contracts.linear_page.opened_page.OpenedPage as OpenedPage
use Rattle.page_chain.specs.contracts.linear_page.page_number.PageNumber as PageNumber

-- what a note owns names no thread
note_sync : (T : RattleType) → IsSync (Note.the_row T)
note_sync T = record {
  shared = λ note block offset lifetime share.
      part_keyless (Note.the_row T) (sent_note.the_send T) share note block offset;
}

-- so threads may share the number of a page with what was learned of it
pub number_sync : (T K O : RattleType) (clean : Ghosts K.Denot T.Denot) (opens : Ghosts O.Denot T.Denot)
    → IsSync (PageNumber.the_field T K O clean opens).row
number_sync T K O clean opens =
    let row = note_sync (Row.the_row T K O clean opens) in
    let link = note_sync (OpenedPage.the_row T K O clean opens) in
    struct_sync (shape (PageNumber.the_type T K O clean opens))
    (search sendable, (record { shared = row.shared }, (record { shared = link.shared }, tt)))
