pub mod Fresh
pub mod NameLemmas
pub mod Prefixes
pub mod SearchLemmas
pub mod Telling
