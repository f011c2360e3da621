pub mod Ways
pub mod As
pub mod Examples
