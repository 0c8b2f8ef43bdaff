pub mod Ground
pub mod Form
pub mod Printed
pub mod Fitting
pub mod Refusals
pub mod Catalogue
