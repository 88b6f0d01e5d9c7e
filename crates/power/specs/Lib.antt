-- The definitions that the contracts of the powers cite.
pub mod Power
pub mod Points
