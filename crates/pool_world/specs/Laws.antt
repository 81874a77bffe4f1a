-- For callers of a world: what its bounds say of a call, and of all calls together.
pub mod WorldBounds
