pub mod Decimal
pub mod Words
pub mod Tagged
pub mod Tags
