pub mod Stability
pub mod Examples
