pub mod Counts
pub mod Taken
pub mod Rows
pub mod Standing
pub mod Sound
