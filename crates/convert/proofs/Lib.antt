pub mod Codes
pub mod Whole
