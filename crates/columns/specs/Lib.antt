pub mod Bound
pub mod Test
pub mod Set
pub mod Order
pub mod Counts
pub mod Alike
