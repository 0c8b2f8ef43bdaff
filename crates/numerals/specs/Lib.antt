pub mod Digits
pub mod Tagged
