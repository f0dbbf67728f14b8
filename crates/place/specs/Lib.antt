pub mod Place
pub mod Judged
pub mod Bounds
