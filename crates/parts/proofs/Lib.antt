pub mod Spot
pub mod Checked
pub mod Parts
pub mod Good
pub mod Left
pub mod Grew
