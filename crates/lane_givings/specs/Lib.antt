pub mod Givings
pub mod Laws
