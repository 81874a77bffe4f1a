-- What a permit owns: what the holder of its place has, but for the bytes; or the note that is left.
use Rattle.std.specs.Prelude.{⊤, List, Option, Some, None}
use base.Fml.{Fml, fex}
use mir.Val.{Val}
use denote.Builtin.{unit}
use Rattle.pool_parts.specs.contracts.page.holding.Holding as HoldingRow
use Rattle.pool_parts.specs.declared.page.holding.Holding.{Holding}
use Rattle.fixed_pool_c.specs.HandleOwns.{final_note_owns}
use Rattle.fixed_pool_c.specs.declared.open_handle.FinalNote.{FinalNote}

abbrev pub permit_owns : Option (Holding ⊤) → Option FinalNote → Fml
permit_owns None last = final_note_owns last
permit_owns (Some holding) last = fex (List Val) (λ values. (HoldingRow.the_row unit).own_val holding values)
