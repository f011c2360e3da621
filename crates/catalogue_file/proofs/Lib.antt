pub mod Spelled
pub mod Read
pub mod Written
