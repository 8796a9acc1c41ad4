pub mod Ends
pub mod MetKept
pub mod MetRun
pub mod MetStates
