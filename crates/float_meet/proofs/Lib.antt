pub mod Exactly
pub mod SizeTest
pub mod Cases
pub mod Examples
pub mod Table
