mod FilterLaws
mod GainLaws
pub mod Cut
