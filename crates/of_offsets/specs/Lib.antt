pub mod OfOffsets
