pub mod Root
pub mod Parts
pub mod Examples
