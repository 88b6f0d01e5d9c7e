pub mod StepLaws
pub mod ThroughLaws
pub mod FeedingLaws
pub mod WalkLaws
pub mod CallLaws
pub mod HistoryLaws
pub mod HistoriesLaws
pub mod EmptyLaws
