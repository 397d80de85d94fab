pub mod Bytes
pub mod Framing
pub mod Machine
pub mod Messages
pub mod Pieces
