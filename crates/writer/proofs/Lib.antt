mod Putting
pub mod Lengths
pub mod ReadBack
pub mod WriteBack
