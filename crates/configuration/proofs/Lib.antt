pub mod LimitsLaws
