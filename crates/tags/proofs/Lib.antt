pub mod Tags
pub mod Counts
