-- The definitions that the contracts of the cosine cite.
pub mod Cos
pub mod Both
pub mod Sides
pub mod Examples
