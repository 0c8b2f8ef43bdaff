pub mod Bits
pub mod Marks
pub mod Plane
