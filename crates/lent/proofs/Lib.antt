pub mod Lent
pub mod Local
pub mod Called
pub mod Walk
