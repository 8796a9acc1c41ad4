pub mod Desk
pub mod Wires
pub mod Witness
