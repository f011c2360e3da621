pub mod Index
pub mod Store
pub mod Opens
