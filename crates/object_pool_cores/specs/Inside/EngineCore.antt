-- The core that an engine plays on, as it opens.
use Rattle.std.specs.Prelude.{◌≡◌, ℕ, Option}
use Rattle.object_pool_cores.specs.declared.sequential.linear_core.LinearCore.{LinearCore}
use Rattle.object_pool_cores.specs.Engine.{makes_zero}
use Rattle.object_pool_cores.specs.Linear.{IsOpening, linear_init, linear_reset}

-- a page of zeros, made by what makes zeros, with this limit and this reset
pub record IsEngineCore {R K : Type 0} (limit : Option ℕ) (reset : R) (core : LinearCore ℕ ℕ R K) : Type 0 where
  pub opening : IsOpening makes_zero limit core
  pub init : linear_init core ≡ 0
  pub kept : linear_reset core ≡ reset
