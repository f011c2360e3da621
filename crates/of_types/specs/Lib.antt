pub mod OfTypes
pub mod Tells
