pub mod Words
pub mod Put
pub mod Putting
pub mod Signed
pub mod Output
