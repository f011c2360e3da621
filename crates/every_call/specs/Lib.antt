pub mod NonZero
pub mod Ty
pub mod MeetList
pub mod Others
pub mod Run
pub mod Cleared
