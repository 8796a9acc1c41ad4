pub mod LevelLemmas
pub mod LeastLemmas
pub mod SetLemmas
