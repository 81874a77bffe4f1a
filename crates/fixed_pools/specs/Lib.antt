pub mod FixedCount
pub mod FixedPool
