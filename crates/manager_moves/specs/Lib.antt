pub mod Runs
pub mod Lanes
pub mod Parts
pub mod Moves
pub mod Laws
pub mod Examples
