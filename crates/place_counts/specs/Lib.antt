pub mod Asked
pub mod First
pub mod Counting
