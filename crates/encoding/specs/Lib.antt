pub mod Each
pub mod Sizes
pub mod Sound
