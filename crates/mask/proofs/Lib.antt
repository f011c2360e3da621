pub mod Agreed
pub mod Order
pub mod Bits
pub mod Steps
pub mod Examples
