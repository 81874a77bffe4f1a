pub mod KeptPlaces
pub mod RoomShared
