pub mod WholeLaws
pub mod Agree
pub mod Demand2
