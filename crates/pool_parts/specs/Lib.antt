pub mod Answers
pub mod Item
pub mod Ledger
pub mod Page
pub mod PageItems
pub mod PageRule
pub mod Slot
pub mod Word
