pub mod Order
pub mod Tree
pub mod Meet
pub mod Free
pub mod Dual
