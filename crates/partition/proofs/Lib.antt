pub mod Leading
pub mod Rights
