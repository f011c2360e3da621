pub mod ReadOnly
pub mod MadeRo
pub mod Remembered
