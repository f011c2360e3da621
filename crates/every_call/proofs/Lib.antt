pub mod Parts
pub mod MeetList
pub mod Keeps
pub mod Cleared
pub mod NonZero
pub mod Examples
