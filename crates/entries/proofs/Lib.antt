pub mod Grounds
pub mod OneEntry
pub mod Entries
pub mod Members
pub mod Checks
