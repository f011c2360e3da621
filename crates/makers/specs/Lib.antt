pub mod Entries
pub mod Fit
pub mod Makers
