pub mod JobLemmas
pub mod LawLemmas
pub mod OutcomeLemmas
pub mod PromiseLemmas
pub mod SourceLemmas
pub mod WireLemmas
