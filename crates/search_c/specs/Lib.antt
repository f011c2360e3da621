pub mod Handle
