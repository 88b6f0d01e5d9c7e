pub mod Refusal
pub mod Given
