pub mod ChunkLemmas
pub mod FramingLemmas
pub mod HeadLemmas
pub mod OneEnd
pub mod OneFraming
pub mod OpenTalk
pub mod RangeLemmas
pub mod TagLemmas
