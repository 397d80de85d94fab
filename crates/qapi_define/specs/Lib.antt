pub mod Conditions
pub mod Definitions
pub mod Frames
pub mod Members
pub mod References
pub mod Saying
pub mod Trees
