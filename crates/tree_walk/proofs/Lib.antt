pub mod FoundLemmas
pub mod OrderLemmas
pub mod PathLemmas
pub mod StepLemmas
pub mod WalkLemmas
