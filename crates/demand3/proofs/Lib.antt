pub mod Runs
pub mod Accepted
pub mod Lists
pub mod Reaching
pub mod Demand3
pub mod Examples
pub mod Shown
pub mod Any
