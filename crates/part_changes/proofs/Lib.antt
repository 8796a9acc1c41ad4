pub mod Calling
pub mod Changing
pub mod Pieces
pub mod Returning
