pub mod Vectors
pub mod Examples
