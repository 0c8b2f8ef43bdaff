pub mod Past
pub mod Numbers
pub mod Stores
