pub mod Round
pub mod Reading
