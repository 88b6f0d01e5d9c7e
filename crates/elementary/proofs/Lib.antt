-- What the proofs of the four functions share, and what the crates above may take from an answer.
pub mod Patterns
pub mod Ratio
pub mod Rounding
pub mod Weights
pub mod Weighted
pub mod Signs
pub mod Scaling
pub mod Sizes
pub mod Chain
pub mod Sum
pub mod Tail
pub mod FloatChain
pub mod Answers
pub mod OutcomeLaws
