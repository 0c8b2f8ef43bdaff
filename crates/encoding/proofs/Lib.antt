pub mod Each
pub mod Sizes
pub mod Parts
pub mod Contents
pub mod Visible
pub mod Accepted
pub mod Shaped
pub mod Made
