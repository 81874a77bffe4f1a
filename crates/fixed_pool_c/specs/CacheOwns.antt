-- What a cache owns: what an open one has lies in a box at its pointer. An empty one is null, and
-- may own the note of its last operation.
use Rattle.std.specs.Prelude.{◌≡◌, Option, Some, None}
use base.Fml.{Fml, fex}
use denote.RawPtr.{Ptr, null_ptr}
use Rattle.std_alloc.specs.Box.Ownership.{box_owns}
use Rattle.std_heap.specs.contracts.GlobalAllocator.TheImpl.{ghosts}
use Rattle.std_heap.specs.declared.Global.{Global}
use Rattle.fixed_pool_c.specs.HandleOwns.{final_note_owns}
use Rattle.fixed_pool_c.specs.contracts.open_cache.OpenCache.{the_row}
use Rattle.fixed_pool_c.specs.declared.open_cache.OpenCache.{OpenCache}
use Rattle.fixed_pool_c.specs.declared.open_handle.FinalNote.{FinalNote}

abbrev pub cache_owns : Global → Ptr → Option OpenCache → Option FinalNote → Fml
cache_owns alloc at None last = fex (at ≡ null_ptr) (λ _. final_note_owns last)
cache_owns alloc at (Some held) last = box_owns (ghosts.dealloc_token alloc) the_row at held
