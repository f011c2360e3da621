pub mod Chosen
pub mod Flags
pub mod Sure
