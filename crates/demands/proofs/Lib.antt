pub mod Demand2
pub mod Demand3
pub mod Returned
pub mod Whole
