pub mod Lines
pub mod Compares
