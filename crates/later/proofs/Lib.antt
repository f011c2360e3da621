pub mod Later
pub mod Keeps
pub mod Right
