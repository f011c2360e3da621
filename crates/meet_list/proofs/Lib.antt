pub mod Rows
pub mod Merging
