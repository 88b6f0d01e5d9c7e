pub mod IdleLaws
pub mod FrontLaws
pub mod AnswersLaws
