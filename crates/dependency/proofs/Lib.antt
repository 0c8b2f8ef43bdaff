pub mod Members
pub mod Replies
pub mod Exactly
