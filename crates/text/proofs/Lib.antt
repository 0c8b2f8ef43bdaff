pub mod Decimal
pub mod Fronts
pub mod Puts
