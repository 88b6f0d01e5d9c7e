pub mod Lane
pub mod Rows
