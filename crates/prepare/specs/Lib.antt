pub mod Preparing
pub mod Examples
