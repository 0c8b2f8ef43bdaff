pub mod Answers
pub mod Ranges
pub mod Lists
pub mod Records
pub mod Every
pub mod Sides
pub mod Tests
