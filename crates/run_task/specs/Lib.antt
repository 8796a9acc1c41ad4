pub mod Rooms
pub mod Uploaded
