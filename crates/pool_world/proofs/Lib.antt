pub mod LegalLedgers
pub mod Places
pub mod Runs
pub mod World
