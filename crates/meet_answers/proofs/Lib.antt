pub mod FloatsRead
pub mod IntsRead
