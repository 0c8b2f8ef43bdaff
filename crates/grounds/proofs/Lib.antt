pub mod Starts
pub mod First
pub mod Sound
