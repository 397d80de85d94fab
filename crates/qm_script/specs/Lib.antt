pub mod Endings
pub mod Fed
pub mod Kept
pub mod Lines
pub mod Orders
pub mod Players
pub mod Playing
pub mod Plays
