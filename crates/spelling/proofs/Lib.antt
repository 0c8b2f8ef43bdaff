pub mod Stands
pub mod Runs
pub mod Small
pub mod Attributes
