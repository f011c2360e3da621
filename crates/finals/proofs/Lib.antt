pub mod Ways
pub mod Stays
pub mod Knows
pub mod Examples
pub mod Any
