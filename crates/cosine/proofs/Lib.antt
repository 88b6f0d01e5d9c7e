-- Laws that the proofs of this crate cite, and, in Laws, those that other crates may. In the order in which they build on one another.
mod Words
mod Turns
mod Exact
mod Steps
mod Inner
mod Reduced
mod Value
mod Answers
mod Meets
mod Products
mod Pattern
mod Rest
mod Inside
mod Polynomials
mod Bounded
pub mod Laws
