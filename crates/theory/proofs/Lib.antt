pub mod Comparisons
pub mod Smallest
pub mod Spare
pub mod Theorems
pub mod Tokenflow
