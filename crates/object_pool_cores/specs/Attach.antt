-- What a refused attach gives back.
use Rattle.std.specs.Prelude.{◌≡◌, Result, Err}
use Rattle.object_pool_cores.specs.declared.sequential.item.Item.{Item}
use Rattle.object_pool_cores.specs.declared.sequential.attach_error.AttachError.{AttachError}
use Rattle.object_pool_cores.specs.declared.sequential.attach_error.AttachError.TheVariants.{Memory, NotOffered}

-- the value that comes back
abbrev pub refused_value : {T : Type 0} → AttachError T → T
refused_value (Memory value) = value
refused_value (NotOffered value) = value

-- no value is taken from outside: it comes back, and the pool is as before
abbrev pub RefusesAttach : {P T : Type 0} → P → T → Result (Item T) (AttachError T) → P → Type 0
RefusesAttach old value answer new = (answer ≡ Err (NotOffered value)) × (new ≡ old)
