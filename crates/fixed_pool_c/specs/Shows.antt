-- What an open handle shows.
use Rattle.std.specs.Prelude.{⊤}
use Rattle.std.specs.Arc.{arc_value}
use Rattle.std.specs.declared.alloc.Global.{Global}
use Rattle.std.specs.declared.sync.Arc.{Arc}
use Rattle.pool_parts.specs.declared.clean.AnyValue.{AnyValue}
use Rattle.pool_parts.specs.declared.closures.ready.Copied.{Copied}
use Rattle.pool_parts.specs.declared.closures.ready.Keep.{Keep}
use Rattle.fixed_pools.specs.declared.fixed_object_pool.FixedObjectPool.{FixedObjectPool}
use Rattle.fixed_pools.specs.declared.fixed_reusable.FixedReusableOf.{FixedReusableOf}
use Rattle.pool_parts.specs.declared.page.note.PageNote.{PageNote}
use Rattle.fixed_pool_c.specs.declared.open_handle.HandleState.{HandleState}
use Rattle.fixed_pool_c.specs.declared.open_handle.FinalNote.{FinalNote}
use Rattle.fixed_pool_c.specs.declared.open_handle.HandleState.TheVariants.{Empty, Full}

-- a pool of places alone: its items have no value
abbrev pub PlacePool : Type 0
PlacePool = FixedObjectPool ⊤ (Copied ⊤ AnyValue) Keep AnyValue

-- a place that is out
abbrev pub PlaceInUse : Type 0
PlaceInUse = FixedReusableOf ⊤ (Arc PlacePool Global) (Copied ⊤ AnyValue) Keep AnyValue

-- the pool of a handle, whether it holds a place or not
abbrev pub state_pool : HandleState → PlacePool
state_pool (Empty idle) = arc_value idle.pool
state_pool (Full out) = arc_value out.pool

-- what a closed handle keeps that knew this at its end
abbrev pub final_note_of : PageNote ⊤ → FinalNote
final_note_of note = record { note = record { value = note } }
