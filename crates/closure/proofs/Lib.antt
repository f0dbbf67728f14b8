mod Carrying
mod Along
mod Order
pub mod Turned
