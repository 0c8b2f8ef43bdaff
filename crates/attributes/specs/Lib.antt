pub mod Digits
pub mod Tags
