pub mod Beginning
pub mod Checking
pub mod Clashes
pub mod Passes
pub mod Walking
