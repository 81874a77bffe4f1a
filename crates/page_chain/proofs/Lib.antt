pub mod LinkPlaces
pub mod NumberShared
