pub mod Places
pub mod Meaning
pub mod Walks
