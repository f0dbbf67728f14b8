pub mod Net
pub mod Order
pub mod Prefix
pub mod Cut
pub mod Flow
pub mod Compare
pub mod OnlyPairs
pub mod Examples
