pub mod Answers
pub mod Binds
pub mod Causes
pub mod Loading
pub mod Output
pub mod Refusals
pub mod Rules
pub mod Words
