pub mod Clean
pub mod Examples
