pub mod Bits
pub mod Word
pub mod Filling
pub mod Members
pub mod Seeds
pub mod Marks
pub mod Plane
pub mod Backed
