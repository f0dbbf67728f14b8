pub mod Table
pub mod Starts
