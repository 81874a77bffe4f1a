pub mod GuardShared
pub mod Notes
pub mod StackShared
