pub mod Kinds
pub mod Words
pub mod Columns
pub mod Table
pub mod Search
pub mod Made
pub mod Ran
