pub mod BeginLemmas
pub mod LaneLemmas
pub mod RunLemmas
pub mod StepLemmas
pub mod TakeLemmas
