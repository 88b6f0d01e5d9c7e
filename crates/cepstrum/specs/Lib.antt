pub mod Cepstrum
pub mod Weights
pub mod Examples
