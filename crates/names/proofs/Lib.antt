pub mod Bytes
pub mod Number
pub mod NameEntry
pub mod Examples
