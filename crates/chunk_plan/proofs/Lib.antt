pub mod Counts
pub mod Lengths
pub mod Pieces
pub mod Rooms
