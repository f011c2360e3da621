pub mod Callers
pub mod As
pub mod Needs
