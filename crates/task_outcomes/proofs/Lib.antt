pub mod Acts
pub mod FirstFailures
pub mod JobCauses
pub mod Outcomes
pub mod Reasons
pub mod Settling
pub mod Witness
