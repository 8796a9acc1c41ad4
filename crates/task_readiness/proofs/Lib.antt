pub mod Finding
pub mod PieceActs
pub mod SingleActs
pub mod Idle
pub mod Whole
