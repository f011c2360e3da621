pub mod Formed
pub mod Loading
pub mod Saving
