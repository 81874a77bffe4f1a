use base.Shift.{Keyless}
use denote.Builtin.{unit}
use denote.Param.Send.{IsSend, owning_send, struct_send, sendable}
use denote.Struct.Struct.{exits_of}
use denote.Struct.Owning.{shape, fields, to}
use Rattle.std.specs.Prelude.{⊤, Option, Some, None}
use Rattle.std_alloc.proofs.SendSync.{quiet}
use Rattle.pool_parts.proofs.page.holding.Holding.TheSendSync as holding
use Rattle.pool_parts.specs.declared.page.holding.Holding.{Holding}
use Rattle.fixed_pool_c.specs.PermitOwns.{permit_owns}
use Rattle.fixed_pool_c.specs.contracts.place.Permit.{the_row, the_type}
use Rattle.fixed_pool_c.proofs.open_handle.FinalNote.TheSendSync as last
use Rattle.fixed_pool_c.specs.declared.open_handle.FinalNote.{FinalNote}

owned : (h : Option (Holding ⊤)) (l : Option FinalNote) → Keyless (permit_owns h l)
owned None None = tt
owned None (Some l) = λ values. last.the_send.owned l values
owned (Some h) l = λ values. (holding.the_send unit (search sendable)).owned h values

pub send : IsSend the_row
send = owning_send the_type tt (λ d. owned d.held d.final_note)
    (λ k. quiet (to the_type) (exits_of k (fields the_type)) ((struct_send (shape the_type) tt).leaving k))
