pub mod Built
pub mod Fields
pub mod FloatSize
