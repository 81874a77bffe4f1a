-- Proofs of the laws of a sequential pool. An impl names them, so they stand here and not below
-- proofs/. `WorldBounds`, of the crate below, is for callers of a world.
pub mod PoolSteps
pub mod NumberedPlaces
pub mod FreeValues
pub mod HeldItems
pub mod LinearBag
pub mod LinearTogether
pub mod StackLaws
pub mod FreshBag
pub use Rattle.pool_world.specs.Laws.WorldBounds
