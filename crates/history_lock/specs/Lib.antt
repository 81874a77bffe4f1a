pub mod History
pub mod LockRule
