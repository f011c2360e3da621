pub mod Names
pub mod Rules
