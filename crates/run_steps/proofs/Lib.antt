pub mod Giving
pub mod Growth
pub mod Making
pub mod Settling
