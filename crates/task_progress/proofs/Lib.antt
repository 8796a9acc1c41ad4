pub mod Begun
pub mod Endings
pub mod PieceNumbers
pub mod Pieces
pub mod Progress
pub mod Quiet
pub mod Tags
