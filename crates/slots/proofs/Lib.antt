pub mod CountLaws
pub mod GatherLaws
