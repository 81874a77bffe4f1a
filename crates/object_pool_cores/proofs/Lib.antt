pub mod CommandWords
pub mod Cores
pub mod LeastChoiceSteps
pub mod LineSplits
pub mod ReplyRuns
pub mod TranscriptRuns
