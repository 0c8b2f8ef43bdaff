pub mod Acceptance
pub mod Grounds
pub mod Exists
pub mod Packed
