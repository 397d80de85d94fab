pub mod Firsts
pub mod Lines
pub mod Trees
pub mod Turns
