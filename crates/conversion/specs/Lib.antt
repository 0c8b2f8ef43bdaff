pub mod Printed
pub mod Conversion
pub mod Refusals
