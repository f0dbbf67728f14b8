pub mod Reasons
pub mod Bytes
pub mod KeptRows
pub mod Laws
