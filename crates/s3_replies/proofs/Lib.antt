pub mod ErrorLemmas
pub mod JudgedLemmas
pub mod BucketLemmas
pub mod EachLemmas
pub mod EncodingLemmas
pub mod EntryLemmas
pub mod ObjectLemmas
pub mod PageLemmas
pub mod PlainLemmas
mod TableExamples
pub mod ListingLemmas
pub mod OneValueLemmas
