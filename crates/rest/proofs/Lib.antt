pub mod RestLaws
pub mod Agree
