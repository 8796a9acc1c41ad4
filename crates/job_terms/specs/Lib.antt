pub mod Attempts
pub mod Buffers
pub mod Dispatches
pub mod Gains
pub mod Jobs
pub mod Ops
