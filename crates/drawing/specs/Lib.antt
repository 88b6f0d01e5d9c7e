pub mod Step
pub mod Finish
pub mod Draw
pub mod Examples
