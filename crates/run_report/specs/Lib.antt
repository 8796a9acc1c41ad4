pub mod Printed
pub mod Statuses
pub mod Taskless
pub mod Texts
