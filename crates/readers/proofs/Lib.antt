pub mod Next
pub mod Many
