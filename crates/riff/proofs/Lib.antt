-- Laws that the proofs of this crate, and of others, cite; `Theorems` is what a caller takes.
pub mod WritingLaws
pub mod ReadingLaws
pub mod TripLaws
pub mod Theorems
