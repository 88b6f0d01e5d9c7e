pub mod Sample
pub mod Zero
pub mod NonZero
pub mod Numbers
