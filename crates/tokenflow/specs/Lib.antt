pub mod Rows
pub mod Flowing
pub mod Lent
