pub mod Leaders
pub mod Table
pub mod Keys
