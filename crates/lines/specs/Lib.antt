pub mod Room
pub mod Listing
pub mod DoneEvents
pub mod LeastRow
pub mod Examples
pub mod Enough
