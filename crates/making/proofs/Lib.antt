pub mod Fine
pub mod Values
pub mod As
pub mod Grows
pub mod Kept
pub mod Arms
