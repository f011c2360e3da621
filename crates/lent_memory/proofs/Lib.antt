pub mod Parts
pub mod Laws
pub mod Ways
pub mod Asked
