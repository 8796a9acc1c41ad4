pub mod CallMoves
pub mod CellLemmas
pub mod EndedRuns
pub mod FirstJobs
pub mod FormedJobs
pub mod FormedRuns
pub mod GivenRuns
pub mod HappenedRuns
pub mod HeardRuns
mod HeldBytes
pub mod LentRuns
pub mod MadeRuns
pub mod OneWork
pub mod PlacedRuns
pub mod Places
pub mod PlanTasks
mod ReadRoom
pub mod ReadyJobs
pub mod RunLemmas
pub mod SentRuns
pub mod ShownRuns
pub mod StartRuns
pub mod TagLemmas
