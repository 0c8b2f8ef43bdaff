pub mod Small
pub mod Rank
pub mod Verdict
