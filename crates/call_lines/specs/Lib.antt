pub mod OpenIf
