pub mod Longer
pub mod Small
pub mod Accepted
pub mod Round
pub mod Examples
