pub mod Rights
pub mod Kept
pub mod Ready
