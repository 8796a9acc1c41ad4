pub mod GainLemmas
pub mod PieceCounts
pub mod SameJobs
