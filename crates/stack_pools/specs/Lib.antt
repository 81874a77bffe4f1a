pub mod Sections
pub mod StackHistory
pub mod StackPool
