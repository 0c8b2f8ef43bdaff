pub mod Chains
pub mod Grouping
