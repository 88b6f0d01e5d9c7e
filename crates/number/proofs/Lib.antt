-- Laws that the proofs of this crate, and of others, cite.
pub mod Floats
pub mod BitLaws
pub mod Modulo
pub mod Lists
pub mod ByteLaws
pub mod RangeLaws
