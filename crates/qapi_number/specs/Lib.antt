pub mod Directories
pub mod Implicit
pub mod Kinds
pub mod Numbering
pub mod PartsOf
pub mod Prelude
pub mod TypeNames
