pub mod Pitch
pub mod Begin
pub mod Give
pub mod Examples
