pub mod Leaders
pub mod Keys
pub mod Numbers
pub mod Cases
