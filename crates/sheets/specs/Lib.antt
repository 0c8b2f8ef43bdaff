pub mod Put
pub mod Sheets
