pub mod Float
pub mod Single
