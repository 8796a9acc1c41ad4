pub mod Exchanges
pub mod Files
pub mod Plannings
pub mod Traces
