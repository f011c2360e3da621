pub mod Chosen
pub mod Sure
