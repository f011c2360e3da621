pub mod Entry
pub mod Fresh
pub mod FreshHandles
pub mod Form
pub mod Scan
