pub mod Digits
pub mod Same
pub mod Tags
pub mod Distinct
pub mod Codes
pub mod Fits
