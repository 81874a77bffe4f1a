-- What initializers and resets of values may do, what a call asks of an initializer, and why a call fails.
use Rattle.std.specs.Prelude.{◌⊎◌, ⊤, Option, Some, IfSome}
use Rattle.std.specs.declared.io.ErrorKind.{ErrorKind}
use Rattle.std.specs.declared.io.ErrorKind.TheVariants.{BrokenPipe, OutOfMemory, Other, ResourceBusy}
use Rattle.pool_parts.specs.declared.pull_error.PullError.{PullError}
use Rattle.pool_parts.specs.declared.pull_error.PullError.TheVariants.{Memory, Init, Limit, Closed}

-- some initializer may answer the value, or some reset may leave it of a value before it
abbrev pub IsMadeOrReset : {T I R : Type 0} → (I → Option T → Type 0) → (R → T → T → Type 0) → T → Type 0
IsMadeOrReset {T} {I} {R} answers leaves value =
    ((initializer : I) × answers initializer (Some value))
    ⊎ ((resetter : R) × (before : T) × leaves resetter before value)

-- an initializer may be called, and each value that it answers meets the condition
pub record MayMake {T I : Type 0} (callable : I → Type 0) (answers : I → Option T → Type 0) (meets : T → Type 0)
    (initializer : I)
    : Type 0 where
  pub may_call : callable initializer
  pub each_meets : (answer : Option T) → answers initializer answer → IfSome answer meets

-- a call fails with this cause: for want of memory, because init may answer None, or because there may be no further
-- page or item, each only if this holds of it
abbrev pub Refuses : (memory init limit : Type 0) → PullError → Type 0
Refuses memory init limit Memory = memory
Refuses memory init limit Init = init
Refuses memory init limit Limit = limit
Refuses memory init limit Closed = ⊥

-- a call of a pool that can be closed fails with this cause: because the pool is closed, or as above
abbrev pub RefusesOrClosed : (memory init limit : Type 0) → PullError → Type 0
RefusesOrClosed memory init limit Closed = ⊤
RefusesOrClosed memory init limit cause = Refuses memory init limit cause

-- the kind of the io::Error that a refusal becomes
abbrev pub refusal_kind : PullError → ErrorKind
refusal_kind Memory = OutOfMemory
refusal_kind Init = Other
refusal_kind Limit = ResourceBusy
refusal_kind Closed = BrokenPipe
