pub mod FixedAnswers
pub mod FixedCounts
pub mod FixedRounds
pub mod FixedShared
pub mod PoolWords
