pub mod Number
pub mod Cases
