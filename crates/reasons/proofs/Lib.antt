mod Rows
mod Giving
pub mod Laws
