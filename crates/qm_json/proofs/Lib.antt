pub mod Chunks
pub mod CleanLaws
pub mod Distinct
pub mod Inductions
pub mod NestingLaws
mod NumberExamples
pub mod Plain
pub mod PrintLaws
pub mod Texts
pub mod Wholes
