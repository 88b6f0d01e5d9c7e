-- The definitions that the contracts cite, each with examples that are computed.
pub mod Bits
pub mod F64
pub mod Range
pub mod Bytes
pub mod Examples
pub mod Lists
