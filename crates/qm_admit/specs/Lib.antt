pub mod Blocks
pub mod Fitting
pub mod Misfits
pub mod Paths
pub mod Ranges
pub mod Tags
pub mod Views
pub mod Walks
