pub mod Examples
pub mod Grows
pub mod Nice
pub mod Settled
pub mod Recall
pub mod Loop
pub mod Ways
pub mod Any
