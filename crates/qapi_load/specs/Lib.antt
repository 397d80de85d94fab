pub mod Answers
pub mod Causes
pub mod Files
pub mod Loading
pub mod MemoryLibraries
pub mod Steps
