pub mod Chain
pub mod Ways
