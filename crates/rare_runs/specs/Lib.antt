pub mod Settings
pub mod FileNeighbours
pub mod ShortRuns
pub mod CopyInParts
pub mod MovedDownload
pub mod MovedUpload
pub mod SettingFields
