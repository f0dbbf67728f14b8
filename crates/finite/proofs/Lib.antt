pub mod Chosen
pub mod First
pub mod Pairs
