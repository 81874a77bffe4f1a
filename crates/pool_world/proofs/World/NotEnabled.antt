-- That a step of an agent which isn't at the step's point isn't enabled, so that nothing changes.
use Rattle.std.proofs.Common.{◌≡◌, ℕ, Option, Some, None, Result, Ok, Err, refl}
use Rattle.std.specs.Prelude.{List}
use Rattle.pool_parts.specs.declared.pull_error.PullError.{PullError}
use Rattle.pool_parts.specs.declared.pull_error.PullError.TheVariants.{Memory, Init, Limit, Closed}
use Rattle.pool_world.specs.World.State.{WorldState}
use Rattle.pool_world.specs.World.Machine.{read_mask, read_hinted, clear_bit, clear_hinted, read_next, make_page}
use Rattle.pool_world.specs.World.Machine.{exchange_next, move_out, write, or_mask, MovesHome, IsOutcome}
use Rattle.pool_world.specs.declared.interleave.event.Seen.{Seen}
use Rattle.pool_world.specs.declared.interleave.event.Seen.TheVariants.{NotEnabled}
use Rattle.pool_world.specs.declared.interleave.point.Point.{Point}
use Rattle.pool_world.specs.declared.interleave.point.Point.TheVariants.{Reading, Clearing, AtLink, ClearingHinted}
use Rattle.pool_world.specs.declared.interleave.point.Point.TheVariants.{Making, Linking, Taken, Holding, Home}

module _ {T : Type 0} (world : WorldState T) (a : ℕ) where
  pub reads_only_at_reading : (at : Option (Point T))
      → ((k : ℕ) (asked : Option ℕ) → at ≡ Some (Reading k asked) → ⊥)
      → IsOutcome (read_mask world a at) NotEnabled world
  reads_only_at_reading (Some (Reading k asked)) other = absurd (other k asked refl)
  reads_only_at_reading _ other = (refl, refl)

  pub reads_hinted_only_at_link : (hint : ℕ) (at : Option (Point T))
      → ((k : ℕ) → at ≡ Some (AtLink k None) → ⊥) → IsOutcome (read_hinted world a hint at) NotEnabled world
  reads_hinted_only_at_link hint (Some (AtLink k None)) other = absurd (other k refl)
  reads_hinted_only_at_link hint _ other = (refl, refl)

  pub clears_as_hinted : (at : Option (Point T)) (answer : Seen) (new : WorldState T)
      → ((k mask : ℕ) (asked : Option ℕ) → at ≡ Some (Clearing k mask asked) → ⊥)
      → IsOutcome (clear_hinted world a at) answer new → IsOutcome (clear_bit world a at) answer new
  clears_as_hinted (Some (Clearing k mask asked)) answer new other cleared = absurd (other k mask asked refl)
  clears_as_hinted _ answer new other cleared = cleared

  pub clears_only_at_clearing : (at : Option (Point T))
      → ((hint mask : ℕ) → at ≡ Some (ClearingHinted hint mask) → ⊥)
      → IsOutcome (clear_hinted world a at) NotEnabled world
  clears_only_at_clearing (Some (ClearingHinted hint mask)) other = absurd (other hint mask refl)
  clears_only_at_clearing _ other = (refl, refl)

  pub goes_on_only_at_link : (at : Option (Point T))
      → ((k : ℕ) (asked : Option ℕ) → at ≡ Some (AtLink k asked) → ⊥)
      → IsOutcome (read_next world a at) NotEnabled world
  goes_on_only_at_link (Some (AtLink k asked)) other = absurd (other k asked refl)
  goes_on_only_at_link _ other = (refl, refl)

  pub makes_only_at_making : (prepared : Result (List T) PullError) (at : Option (Point T))
      → ((k : ℕ) → at ≡ Some (Making k) → ⊥) → IsOutcome (make_page world a prepared at) NotEnabled world
  makes_only_at_making (Ok values) (Some (Making k)) other = absurd (other k refl)
  makes_only_at_making (Err cause) (Some (Making k)) other = absurd (other k refl)
  makes_only_at_making (Ok values) _ other = (refl, refl)
  makes_only_at_making (Err Memory) _ other = (refl, refl)
  makes_only_at_making (Err Init) _ other = (refl, refl)
  makes_only_at_making (Err Limit) _ other = (refl, refl)
  makes_only_at_making (Err Closed) _ other = (refl, refl)

  pub links_only_at_linking : (at : Option (Point T))
      → ((k : ℕ) (values : List T) → at ≡ Some (Linking k values) → ⊥)
      → IsOutcome (exchange_next world a at) NotEnabled world
  links_only_at_linking (Some (Linking k values)) other = absurd (other k values refl)
  links_only_at_linking _ other = (refl, refl)

  pub moves_out_only_at_taken : (at : Option (Point T)) → ((k id : ℕ) → at ≡ Some (Taken k id) → ⊥)
      → IsOutcome (move_out world a at) NotEnabled world
  moves_out_only_at_taken (Some (Taken k id)) other = absurd (other k id refl)
  moves_out_only_at_taken _ other = (refl, refl)

  pub writes_only_at_holding : (value : T) (at : Option (Point T))
      → ((k id : ℕ) (old : T) → at ≡ Some (Holding k id old) → ⊥)
      → IsOutcome (write world a value at) NotEnabled world
  writes_only_at_holding value (Some (Holding k id old)) other = absurd (other k id old refl)
  writes_only_at_holding value _ other = (refl, refl)

  pub moves_home_only_at_holding : (Leaves : T → T → Type 0) (at : Option (Point T))
      → ((k id : ℕ) (value : T) → at ≡ Some (Holding k id value) → ⊥)
      → MovesHome Leaves world a at NotEnabled world
  moves_home_only_at_holding Leaves (Some (Holding k id value)) other = absurd (other k id value refl)
  moves_home_only_at_holding Leaves _ other = (refl, refl)

  pub returns_only_at_home : (at : Option (Point T)) → ((k id : ℕ) → at ≡ Some (Home k id) → ⊥)
      → IsOutcome (or_mask world a at) NotEnabled world
  returns_only_at_home (Some (Home k id)) other = absurd (other k id refl)
  returns_only_at_home _ other = (refl, refl)
