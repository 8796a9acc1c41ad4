pub mod RunProgress
