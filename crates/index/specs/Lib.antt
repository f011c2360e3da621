pub mod Digest
pub mod Chains
pub mod Covers
