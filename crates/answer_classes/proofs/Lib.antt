pub mod Rows
pub mod DocumentReplies
pub mod OneClass
pub mod OneReading
pub mod OneShown
