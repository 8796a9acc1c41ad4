pub mod Below
pub mod Folders
pub mod Names
pub mod StoreCode
pub mod Table
