pub mod LinearPool
