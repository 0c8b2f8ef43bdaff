pub mod Chains
pub mod Grouped
