pub mod Returned
pub mod Whole
pub mod Demand2
pub mod Demand3
