-- One pool that grows, and its pages: begin with `Steps`.
pub mod Steps
pub mod Parts
pub mod Names
pub mod Premises
pub mod Moves
pub mod SameRun
pub mod Growth
pub mod Together
