pub mod Mask
pub mod Kept
pub mod Held
