pub mod Clean
pub mod PairsKnown
