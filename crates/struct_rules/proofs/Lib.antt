pub mod Chosen
pub mod Few
