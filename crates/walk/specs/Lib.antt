pub mod Walk
pub mod Walked
pub mod Remembered
