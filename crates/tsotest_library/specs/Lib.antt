pub mod Given
pub mod Judged
pub mod Refused
pub mod Rendered
pub mod Checked
pub mod Listed
pub mod Completed
