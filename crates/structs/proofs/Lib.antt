pub mod Columns
pub mod Filled
pub mod Narrow
