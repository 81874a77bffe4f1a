-- What an engine played on a core of each kind, said of the pool that the core stands for.
use Rattle.std.proofs.Common.{◌≡◌, ℕ, Option, Some, None, List, [], ◌∷◌, length, Result, refl, ap, ◌∙◌}
use Rattle.std.proofs.Common.{arith, suc, zero}
use Rattle.std.specs.Prelude.{All, replicate}
use Rattle.std.proofs.KnownBytes.{Appends-nil}
use Rattle.std.proofs.lemmas.List.Elements.{All-head, All-tail}
use Rattle.pool_parts.specs.declared.pull_error.PullError.{PullError}
use Rattle.object_pool_cores.specs.declared.sequential.item.Item.{Item}
use Rattle.object_pool_cores.specs.declared.sequential.attach_error.AttachError.{AttachError}
use Rattle.object_pool_cores.specs.declared.sequential.linear_core.LinearCore.{LinearCore}
use Rattle.object_pool_cores.specs.declared.sequential.stack_core.StackCore.{StackCore}
use Rattle.object_pool_cores.specs.declared.sequential.none_core.NoneCore.{NoneCore}
use Rattle.object_pool_cores.specs.declared.engine.kind.Kind.TheVariants as kind
use Rattle.object_pool_cores.specs.Attach.{RefusesAttach}
use Rattle.object_pool_cores.specs.Engine.{Telling, OnLinear, OnKind, linear_kind, makes_zero, tells_front}
use Rattle.object_pool_cores.specs.Fresh.{PullsFresh}
use Rattle.object_pool_cores.specs.Held.{Playing}
use Rattle.object_pool_cores.specs.LastIn.{PullsLast, ReturnsLast, AttachesLast}
use Rattle.object_pool_cores.specs.LeastChoice.{PullsItem, ReturnsItem}
use Rattle.object_pool_cores.specs.Linear.{LinearPulls, LinearGives, IsLinearStep, linear_init, linear_reset, core_pool, limit_of}
use Rattle.object_pool_cores.specs.Stack.{StackPulls, StackGives, StackAttaches, stack_init, stack_reset, kept_of}
use Rattle.object_pool_cores.specs.NoPool.{NonePulls, none_init}
use Rattle.object_pool_cores.specs.Inside.EngineCore.{IsEngineCore}
use Rattle.pool_world.specs.Pool.{Pool, opening}
use Rattle.object_pool_cores.proofs.LineSplits.{IsLines-none}

abbrev by_copy : ℕ → Option ℕ → Type 0
by_copy copied answer = answer ≡ Some copied

-- a list of zeros
zeros : (values : List ℕ) (count : ℕ) → length values ≡ count → All (λ v. makes_zero (Some v)) values
    → values ≡ replicate count 0
zeros [] zero counted each = refl
zeros [] (suc count) counted each = absurd (omega arith)
zeros (v ∷ values) zero counted each = absurd (omega arith)
zeros (v ∷ values) (suc count) counted each =
    let head : Some v ≡ Some 0 = All-head (λ w. makes_zero (Some w)) v values each in
    let first : v ≡ 0 = cc in
    let rest = zeros values count (omega arith) (All-tail (λ w. makes_zero (Some w)) v values each) in
    cc

module _ (leaves : ℕ → ℕ → Type 0) where
  by_limit : (most : Option ℕ) (tells : Telling) → OnLinear leaves most tells → OnKind leaves (linear_kind most) tells
  by_limit None tells told = told
  by_limit (Some pages) tells told = told

  -- nothing was read, and nothing written
  pub front-none : (limit : Option ℕ) (before : Option (List ℕ))
      → OnKind leaves (linear_kind limit) (tells_front before [] before)
  front-none limit before = by_limit limit (tells_front before [] before) (
    opening (replicate 32 0),
    record { pages = refl; places = λ n. refl },
    record {
      front = [];
      back = [];
      rest = [];
      last = record { pool = opening (replicate 32 0); held = [] };
      cut = refl;
      served = record {
        lines = [];
        text = [];
        split = IsLines-none;
        told = (refl, refl);
        written = Appends-nil before;
      };
    },
  )

module _ {R K : Type 0} (leaves : R → ℕ → ℕ → Type 0) (limit : Option ℕ) (reset : R) where
  -- the core has this limit, and this makes and resets its values
  pub record IsSetLinear (core : LinearCore ℕ ℕ R K) : Type 0 where
    pub limited : limit_of core ≡ limit
    pub init : linear_init core ≡ 0
    pub kept : linear_reset core ≡ reset

  set_after : (old new : LinearCore ℕ ℕ R K) → IsSetLinear old → IsLinearStep old new → IsSetLinear new
  set_after old new set step = record {
    limited = step.limit ∙ set.limited;
    init = step.init ∙ set.init;
    kept = step.reset ∙ set.kept;
  }

  pub linear_pull : (old new : LinearCore ℕ ℕ R K) (answer : Result (Item ℕ) PullError) → IsSetLinear old
      → LinearPulls (by_copy (linear_init old)) old answer new
      → PullsItem limit makes_zero (core_pool old) answer (core_pool new) × IsSetLinear new
  linear_pull old new answer set pulled =
      (rw (set.init, set.limited) at pulled.pulled, set_after old new set pulled.step)

  pub linear_give : (old new : LinearCore ℕ ℕ R K) (item : Item ℕ) → IsSetLinear old
      → LinearGives (leaves (linear_reset old)) old item new
      → ReturnsItem (leaves reset) (core_pool old) item (core_pool new) × IsSetLinear new
  linear_give old new item set gave = (rw set.kept at gave.returned, set_after old new set gave.step)

  pub linear_attach : (old new : LinearCore ℕ ℕ R K) (value : ℕ) (answer : Result (Item ℕ) (AttachError ℕ))
      → IsSetLinear old
      → RefusesAttach old value answer new → RefusesAttach (core_pool old) value answer (core_pool new)
      × IsSetLinear new
  linear_attach old new value answer set refused =
      ((refused.0, ap core_pool refused.1), rw refused.1 set)

  pub linear_set : (core : LinearCore ℕ ℕ R K) → IsEngineCore limit reset core → IsSetLinear core
  linear_set core opens = record { limited = opens.opening.most; init = opens.init; kept = opens.kept }

  pub on_linear : (old : Playing (LinearCore ℕ ℕ R K) ℕ) → IsEngineCore limit reset old.pool → old.held ≡ []
      → (tells : Telling)
      → tells (Pool ℕ) (PullsItem limit makes_zero) (ReturnsItem (leaves reset)) RefusesAttach
      (record { pool = core_pool old.pool; held = old.held }) → OnKind (leaves reset) (linear_kind limit) tells
  on_linear old opens none tells told =
      let first = opens.opening in
      let values = zeros first.values 32 first.answered.count first.answered.each in
      by_limit (leaves reset) limit tells (
        core_pool old.pool,
        rw values at first.pool,
        rw none at told,
      )

module _ {R K : Type 0} (leaves : R → ℕ → ℕ → Type 0) (reset : R) where
  -- this makes and resets the core's values
  pub record IsSetStack (core : StackCore ℕ ℕ R K) : Type 0 where
    pub init : stack_init core ≡ 0
    pub kept : stack_reset core ≡ reset

  pub stack_pull : (old new : StackCore ℕ ℕ R K) (answer : Result (Item ℕ) PullError) → IsSetStack old
      → StackPulls (by_copy (stack_init old)) old answer new
      → PullsLast makes_zero (kept_of old) answer (kept_of new) × IsSetStack new
  stack_pull old new answer set pulled = (
    rw set.init at pulled.pulled,
    record { init = pulled.step.init ∙ set.init; kept = pulled.step.reset ∙ set.kept },
  )

  pub stack_give : (old new : StackCore ℕ ℕ R K) (item : Item ℕ) → IsSetStack old
      → StackGives (leaves (stack_reset old)) old item new
      → ReturnsLast (leaves reset) (kept_of old) item (kept_of new) × IsSetStack new
  stack_give old new item set gave = (
    rw set.kept at gave.returned,
    record { init = gave.step.init ∙ set.init; kept = gave.step.reset ∙ set.kept },
  )

  pub stack_attach : (old new : StackCore ℕ ℕ R K) (value : ℕ) (answer : Result (Item ℕ) (AttachError ℕ))
      → IsSetStack old
      → StackAttaches old value answer new → AttachesLast (kept_of old) value answer (kept_of new)
      × IsSetStack new
  stack_attach old new value answer set attached = (attached.attached, rw attached.same set)

  pub on_stack : (old : Playing (StackCore ℕ ℕ R K) ℕ) → kept_of old.pool ≡ [] → old.held ≡ [] → (tells : Telling)
      → tells (List ℕ) (PullsLast makes_zero) (ReturnsLast (leaves reset)) AttachesLast
      (record { pool = kept_of old.pool; held = old.held }) → OnKind (leaves reset) kind.Stack tells
  on_stack old none_kept none tells told = rw (none, none_kept) at told

-- this makes the core's values
abbrev pub IsSetNone : NoneCore ℕ ℕ → Type 0
IsSetNone core = none_init core ≡ 0

abbrev pub no_pool : NoneCore ℕ ℕ → Unit {0}
no_pool core = tt

pub none_pull : (old new : NoneCore ℕ ℕ) (answer : Result (Item ℕ) PullError) → IsSetNone old
    → NonePulls (by_copy (none_init old)) old answer new → PullsFresh makes_zero answer × IsSetNone new
none_pull old new answer set pulled =
    (rw set at pulled.1, ap none_init pulled.0 ∙ set)

pub none_attach : (old new : NoneCore ℕ ℕ) (value : ℕ) (answer : Result (Item ℕ) (AttachError ℕ)) → IsSetNone old
    → RefusesAttach old value answer new → RefusesAttach (no_pool old) value answer (no_pool new) × IsSetNone new
none_attach old new value answer set refused = ((refused.0, refl), ap none_init refused.1 ∙ set)

pub none_give : (old new : NoneCore ℕ ℕ) (item : Item ℕ) → IsSetNone old → new ≡ old → Unit {0} × IsSetNone new
none_give old new item set same = (tt, ap none_init same ∙ set)

pub on_none : (leaves : ℕ → ℕ → Type 0) (old : Playing (NoneCore ℕ ℕ) ℕ) → old.held ≡ [] → (tells : Telling)
    → tells (Unit {0}) (λ old answer new. PullsFresh makes_zero answer) (λ old item new. Unit {0}) RefusesAttach
    (record { pool = tt; held = old.held }) → OnKind leaves kind.None tells
on_none leaves old none tells told = rw none at told
