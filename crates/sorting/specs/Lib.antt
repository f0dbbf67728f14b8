pub mod Waiting
pub mod Sorted
pub mod Steps
pub mod Rows
pub mod InRows
pub mod Turned
pub mod Arranged
