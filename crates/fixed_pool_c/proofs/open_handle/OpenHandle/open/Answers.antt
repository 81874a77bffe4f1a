use Rattle.std.proofs.Common.{refl, ap, subst}
use Rattle.fixed_pools.specs.FixedPool.{fixed_view}
use Rattle.pool_parts.specs.Page.{IsNoteOf}
use Rattle.fixed_pool_c.specs.Shows.{PlacePool}
use Rattle.fixed_pool_c.specs.declared.open_handle.OpenHandle.{OpenHandle}
use Rattle.fixed_pool_c.proofs.open_handle.OpenHandle.open.Goals as goal

pub returns-in-Ok : goal.returns-in-Ok
returns-in-Ok c = record {
  idle = _;
  holds_none = ap (λ (held : OpenHandle). held.state) c.in-Ok.ensures.ok;
  same_tag = ap (λ (held : OpenHandle). held.tag) c.in-Ok.ensures.ok;
  same_pool = refl;
  note = subst (λ (pool : PlacePool). IsNoteOf (fixed_view pool).identity (fixed_view pool).opening c.note-note.result)
      c.deref-3.ensures c.note-note.ensures;
}
