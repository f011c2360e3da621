pub mod Bytes
pub mod Pass
pub mod Meaning
pub mod Examples
