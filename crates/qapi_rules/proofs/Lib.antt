pub mod BranchLaws
pub mod CycleLaws
pub mod DirectoryLaws
pub mod Gathered
