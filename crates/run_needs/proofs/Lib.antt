pub mod EntryCounts
pub mod Falls
pub mod GivenCounts
pub mod JobLemmas
pub mod MoveCounts
pub mod NeedLemmas
