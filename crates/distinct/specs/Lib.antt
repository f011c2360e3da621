pub mod Distinct
pub mod Filter
pub mod Blocks
pub mod Entries
