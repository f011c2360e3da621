pub mod Rows
pub mod Steps
pub mod Hashes
pub mod Places
pub mod Apart
pub mod Stores
