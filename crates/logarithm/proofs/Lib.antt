-- The laws behind the contracts; Laws has what the crates above may cite.
mod Pattern
mod Inside
mod Reduced
mod Value
mod Difference
mod Ratio
mod Turns
mod Bounds
mod Near
mod Terms
mod Answer
mod Cases
mod Sign
mod Found
pub mod Laws
