use Rattle.std.proofs.Common.{◌≡◌, ℕ, Option, Some, None, slice_get, arith, refl}
use Rattle.std.proofs.lemmas.Grind.{common_steps}
use Rattle.std.proofs.lemmas.Option.{gets}
use Rattle.pool_world.specs.World.Machine.{held_by}
use Rattle.pool_world.specs.declared.interleave.point.Point.{Point}
use Rattle.pool_world.specs.declared.interleave.point.Point.TheVariants.{Holding}
use Rattle.pool_world.proofs.interleave.machine.Machine.held.Goals as goal

-- only an agent that holds a value has one
holds_none_elsewhere : {T : Type 0} (at : Option (Point T))
    → ((k id : ℕ) (value : T) → at ≡ Some (Holding k id value) → ⊥) → None ≡ held_by at
holds_none_elsewhere (Some (Holding k id value)) other = absurd (other k id value refl)
holds_none_elsewhere _ other = refl

pub returns-in_default : goal.returns-in_default
returns-in_default g c =
    holds_none_elsewhere (slice_get c.args.self.now.state.agents c.args.agent)
    (λ k id value here. grind (arith, common_steps, gets, here))
