-- The definitions that the contracts cite, each with examples that are computed.
pub mod Left
pub mod Writing
pub mod Refusal
pub mod Reading
pub mod Trip
