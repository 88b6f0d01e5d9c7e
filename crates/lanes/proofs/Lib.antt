pub mod LaneLaws
pub mod TapLaws
pub mod RowLaws
