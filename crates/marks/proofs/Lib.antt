pub mod Bits
pub mod Rows
mod Meeting
