pub mod Words
pub mod Broken
pub mod Backed
