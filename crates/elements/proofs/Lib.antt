pub mod Progress
pub mod Rest
pub mod Inside
pub mod Row
