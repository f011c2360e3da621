pub mod Lent
pub mod Matches
pub mod Bodies
pub mod Column
pub mod Callers
pub mod Examples
