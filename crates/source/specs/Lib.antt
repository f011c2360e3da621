pub mod Packed
pub mod Source
