pub mod Folded
pub mod Carried
pub mod FoldedTo
pub mod Walkable
pub mod Written
pub mod Feeding
pub mod Promises
pub mod FromSheet
