pub mod PartMaps
pub mod Swaps
pub mod Changes
pub mod Assembled
pub mod Sound
pub mod Pages
