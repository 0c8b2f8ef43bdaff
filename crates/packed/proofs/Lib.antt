pub mod Order
pub mod Trailer
pub mod Round
pub mod Opening
pub mod Reading
pub mod Filling
pub mod Packing
