pub mod Row
pub mod Exhausted
pub mod Trail
pub mod Searched
pub mod Steps
