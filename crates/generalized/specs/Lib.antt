pub mod Generalized
pub mod Examples
