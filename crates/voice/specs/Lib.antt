pub mod Voice
pub mod Open
pub mod Answers
