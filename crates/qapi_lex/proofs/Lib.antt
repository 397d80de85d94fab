pub mod Covers
pub mod FaultLaws
pub mod PieceLaws
pub mod Splits
