pub mod Laws
pub mod Pool
pub mod Run
pub mod World
