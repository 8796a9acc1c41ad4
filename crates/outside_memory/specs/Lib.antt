pub mod MemFiles
pub mod TalkLog
