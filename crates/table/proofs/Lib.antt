pub mod Bits
pub mod Closing
pub mod Joining
pub mod Reading
pub mod Replacing
pub mod Scan
pub mod Table
pub mod Backed
