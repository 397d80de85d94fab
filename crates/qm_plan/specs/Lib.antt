pub mod Applying
pub mod Cleanness
pub mod Plans
pub mod Stores
pub mod Templates
