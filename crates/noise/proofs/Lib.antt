mod Between
pub mod Tries
mod NoiseLaws
mod GatherLaws
