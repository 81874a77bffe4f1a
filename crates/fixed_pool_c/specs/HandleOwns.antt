-- What a handle owns: what an open one has lies in a box at its pointer. An empty one is null, and
-- may own the note of its last operation.
use Rattle.std.specs.Prelude.{◌≡◌, List, Option, Some, None}
use base.Fml.{Fml, ftrue, fex}
use mir.Val.{Val}
use denote.RawPtr.{Ptr, null_ptr}
use Rattle.std_alloc.specs.Box.Ownership.{box_owns}
use Rattle.std_heap.specs.contracts.GlobalAllocator.TheImpl.{ghosts}
use Rattle.std_heap.specs.declared.Global.{Global}
use Rattle.fixed_pool_c.specs.contracts.open_handle.OpenHandle.{the_row}
use Rattle.fixed_pool_c.specs.contracts.open_handle.FinalNote as FinalNoteRow
use Rattle.fixed_pool_c.specs.declared.open_handle.OpenHandle.{OpenHandle}
use Rattle.fixed_pool_c.specs.declared.open_handle.FinalNote.{FinalNote}

-- the note that a closed handle keeps
abbrev pub final_note_owns : Option FinalNote → Fml
final_note_owns None = ftrue
final_note_owns (Some last) = fex (List Val) (λ values. FinalNoteRow.the_row.own_val last values)

abbrev pub handle_owns : Global → Ptr → Option OpenHandle → Option FinalNote → Fml
handle_owns alloc at None last = fex (at ≡ null_ptr) (λ _. final_note_owns last)
handle_owns alloc at (Some held) last = box_owns (ghosts.dealloc_token alloc) the_row at held
