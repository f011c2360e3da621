pub mod OpenStore
