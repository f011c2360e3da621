pub mod Nan
pub mod Size
pub mod Odd
pub mod Cases
pub mod Examples
