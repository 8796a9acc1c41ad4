pub mod ActLaws
pub mod LaneLaws
