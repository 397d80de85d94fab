pub mod Forms
pub mod Gathering
pub mod Guesses
pub mod Histories
pub mod Lines
pub mod Readings
pub mod Words
