pub mod PlanLemmas
pub mod PromiseLemmas
