pub mod Later
pub mod Right
