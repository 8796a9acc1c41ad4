pub mod Limits
pub mod OutJobs
pub mod Progress
pub mod Ranks
pub mod Waiting
