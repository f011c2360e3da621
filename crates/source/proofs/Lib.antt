pub mod Number
pub mod Packing
pub mod Both
