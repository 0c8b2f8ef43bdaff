pub mod First
pub mod Word
pub mod Read
pub mod Progress
