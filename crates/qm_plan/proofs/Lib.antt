pub mod CleanPlans
pub mod CleanValues
pub mod Commits
pub mod FillLaws
pub mod Gathering
pub mod Inductions
pub mod Tables
