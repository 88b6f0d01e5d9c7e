-- Laws that the proofs of exp cite.
mod Table
mod Guess
mod Scaled
mod Cases
mod Reduced
mod Rests
mod Lipschitz
mod Sums
mod Value
mod Powers
mod Together
mod Rounded
mod Near
mod Answers
mod Branches
pub mod Laws
