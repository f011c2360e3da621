pub mod Layout
pub mod Lays
pub mod Passes
