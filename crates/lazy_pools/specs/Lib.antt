pub mod LazyPool
