pub mod Greetings
pub mod Lanes
pub mod Modes
