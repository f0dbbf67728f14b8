mod Parts
mod Answers
pub mod Enough
pub mod Mendable
pub mod Theorems
