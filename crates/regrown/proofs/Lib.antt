pub mod Unpacked
pub mod Lent
pub mod Apart
pub mod Steps
pub mod Prefix
pub mod Regrown
pub mod Examples
