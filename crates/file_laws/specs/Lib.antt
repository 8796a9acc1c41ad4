pub mod FileEnds
pub mod FileLaws
pub mod FileWitnesses
pub mod PlanEnds
pub mod PlanWitnesses
