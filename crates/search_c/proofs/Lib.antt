pub mod Told
pub mod Before
