pub mod For
pub mod Marking
pub mod Closed
pub mod Reading
pub mod Sound
