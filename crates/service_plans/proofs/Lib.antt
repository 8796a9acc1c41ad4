pub mod QuestionLemmas
pub mod SideLemmas
pub mod LiftLemmas
pub mod NeedLemmas
pub mod PlanLemmas
