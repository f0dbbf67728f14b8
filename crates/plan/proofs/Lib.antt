pub mod Closure
pub mod OnlyPairs
