pub mod Next
pub mod Counts
