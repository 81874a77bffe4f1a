-- What the types of the code show and keep, and what its steps do. A theorem is stated in the files
-- beside this folder.
pub mod Buffered
pub mod EngineCore
pub mod HeldTable
pub mod LastLine
pub mod Numbered
pub mod PageWord
