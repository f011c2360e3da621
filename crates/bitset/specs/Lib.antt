pub mod Bitset
