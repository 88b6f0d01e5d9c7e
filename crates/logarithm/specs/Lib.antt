-- The definitions that the logarithm's contracts cite, with points that are computed.
pub mod Ln
pub mod Points
