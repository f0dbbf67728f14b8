mod Pairs
mod Cycles
