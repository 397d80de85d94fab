pub mod Cleanness
pub mod Members
pub mod Nesting
pub mod Numbers
pub mod Outputs
pub mod Printing
pub mod Strings
