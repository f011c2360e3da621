pub mod Loop
pub mod Names
pub mod Settled
pub mod Recall
pub mod Ways
