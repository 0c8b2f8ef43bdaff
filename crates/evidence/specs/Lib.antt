pub mod Lists
pub mod Sides
pub mod Small
pub mod Run
