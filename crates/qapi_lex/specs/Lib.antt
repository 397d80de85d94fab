pub mod Pieces
pub mod Splitting
pub mod Spots
pub mod Strings
pub mod Tokens
