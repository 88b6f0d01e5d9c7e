pub mod EveryLaws
pub mod EarlierLaws
