mod Whole
mod Turns
mod Guess
pub mod Parts
pub mod Floats
mod Answers
mod Cases
pub mod Laws
