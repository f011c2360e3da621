pub mod Column
pub mod Apart
pub mod Fields
pub mod Arrays
