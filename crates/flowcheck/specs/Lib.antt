pub mod Kept
pub mod Checked
