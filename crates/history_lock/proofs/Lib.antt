pub mod LockSteps
pub mod Prefixes
pub mod SeenShared
