pub mod ChoiceLaws
pub mod DirectoryLaws
pub mod EnumerateLaws
pub mod LineLaws
pub mod RestLaws
