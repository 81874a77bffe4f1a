pub mod LazyShared
