pub mod Holding
pub mod InLanes
pub mod Kept
pub mod Staying
