pub mod Env
pub mod FileCalls
pub mod Files
pub mod Seen
pub mod Sink
pub mod Wire
