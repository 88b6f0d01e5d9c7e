pub mod Mel
pub mod Pairs
pub mod Examples
