pub mod Final
pub mod Known
