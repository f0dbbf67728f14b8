pub mod Clear
pub mod Enough
pub mod Faultless
pub mod Laid
pub mod Located
