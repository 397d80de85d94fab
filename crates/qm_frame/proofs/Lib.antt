mod FramingLemmas
mod Levels
mod Opens
mod PieceLemmas
pub mod Positions
mod Rows
mod Texts
