pub mod OfStructs
