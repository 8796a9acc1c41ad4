pub mod Acts
pub mod Standing
