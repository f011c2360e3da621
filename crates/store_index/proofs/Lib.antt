pub mod Marks
pub mod Index
pub mod Store
