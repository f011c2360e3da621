pub mod OfValues
pub mod Read
pub mod Tells
