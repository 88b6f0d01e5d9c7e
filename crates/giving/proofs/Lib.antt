pub mod BeginLaws
pub mod GiveLaws
