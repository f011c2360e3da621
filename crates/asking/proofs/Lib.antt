pub mod As
pub mod Fills
