pub mod AskLemmas
pub mod PageLemmas
pub mod PlanLemmas
pub mod TraceLemmas
pub mod WalkLemmas
