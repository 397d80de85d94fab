pub mod Onces
pub mod Tables
