pub mod Deadlines
pub mod Endings
pub mod Keys
pub mod Steps
pub mod Windows
