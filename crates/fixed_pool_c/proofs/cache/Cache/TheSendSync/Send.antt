use mir.Raw.{raw}
use base.Shift.{Keyless}
use denote.Memory.{lone}
use denote.Param.Send.{IsSend, owning_send, struct_send, sendable}
use denote.RawPtr.{Ptr}
use denote.Builtin.{RawPtr}
use denote.Struct.Struct.{exits_of}
use denote.Struct.Owning.{shape, fields, to}
use Rattle.std.specs.Prelude.{Option, Some, None}
use Rattle.std_alloc.proofs.SendSync.{quiet, lies}
use Rattle.std.proofs.Crossing.{frees}
use Rattle.std_heap.specs.contracts.Global as heap
use Rattle.std_heap.specs.declared.Global.{Global}
use Rattle.fixed_pool_c.specs.HandleOwns.{final_note_owns}
use Rattle.fixed_pool_c.specs.CacheOwns.{cache_owns}
use Rattle.fixed_pool_c.specs.contracts.open_cache.OpenCache as held
use Rattle.fixed_pool_c.proofs.open_cache.OpenCache.TheSendSync.{the_send}
use Rattle.fixed_pool_c.proofs.open_handle.FinalNote.TheSendSync as last
use Rattle.fixed_pool_c.specs.declared.open_cache.OpenCache.{OpenCache}
use Rattle.fixed_pool_c.specs.declared.open_handle.FinalNote.{FinalNote}
use Rattle.fixed_pool_c.specs.contracts.cache.Cache.{the_row, the_type}

kept : (l : Option FinalNote) → Keyless (final_note_owns l)
kept None = tt
kept (Some l) = λ values. last.the_send.owned l values

owned : IsSend held.the_row → (a : Global) (p : Ptr) (x : Option OpenCache) (l : Option FinalNote)
    → Keyless (cache_owns a p x l)
owned s a p None l = λ _. kept l
owned s a p (Some x) l = (lies held.the_row s p x, frees.frees a (raw (lone held.the_row.mir)) p)

pub send : IsSend the_row
send = let ps : IsSend RawPtr = search sendable in let gs : IsSend heap.the_field.row = search sendable in
    owning_send the_type (ps, (gs, tt)) (λ d. owned the_send d.alloc d.at d.held d.final_note)
    (λ k. quiet (to the_type) (exits_of k (fields the_type)) ((struct_send (shape the_type) (ps, (gs, tt))).leaving k))
