pub mod Holding
pub mod ReadyActs
