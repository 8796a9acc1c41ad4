pub mod CarriedLemmas
pub mod OutcomeLemmas
pub mod PromiseLemmas
