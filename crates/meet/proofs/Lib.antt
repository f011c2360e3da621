pub mod Grows
pub mod Examples
pub mod Made
pub mod Nice
pub mod InTurn
pub mod Any
