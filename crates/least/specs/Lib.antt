pub mod PlaceRows
pub mod Settled
