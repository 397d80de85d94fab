pub mod Lining
pub mod Orders
pub mod Settling
