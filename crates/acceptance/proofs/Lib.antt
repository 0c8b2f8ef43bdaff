pub mod Entries
pub mod Full
pub mod Grounds
pub mod Refusals
pub mod Exists
pub mod Packed
pub mod Accepted
