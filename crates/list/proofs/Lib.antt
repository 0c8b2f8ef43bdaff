pub mod Printed
pub mod Front
