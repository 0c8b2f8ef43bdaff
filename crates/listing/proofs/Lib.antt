pub mod Lists
pub mod Steps
pub mod ByValue
pub mod WholeRun
