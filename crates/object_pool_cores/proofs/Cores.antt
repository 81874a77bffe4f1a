pub mod KeptWord
pub mod PagedPlaces
pub mod NumberedSteps
pub mod FewProbes
pub mod ShownTranscript
pub mod HeldTableSteps
pub mod EngineKinds
