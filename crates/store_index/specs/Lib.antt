pub mod StoreIndex
pub mod Steps
