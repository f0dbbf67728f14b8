pub mod Written
pub mod Lengths
pub mod ReadBack
pub mod WriteBack
