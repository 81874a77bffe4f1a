-- What the world's types show and keep, its invariant, and where an agent is that steps on.
pub mod Prepared
pub mod LinkCapacity
pub mod Tables
pub mod Shown
pub mod Invariant
pub mod SoloWalk
pub mod Progress
