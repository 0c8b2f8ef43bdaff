pub mod Below
pub mod Filled
