pub mod Train
pub mod Examples
