pub mod Logs
pub mod Column
pub mod Callers
pub mod Examples
pub mod Lie
