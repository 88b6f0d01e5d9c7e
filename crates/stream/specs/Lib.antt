pub mod Stream
pub mod Computed
