mod Walks
mod Turns
mod Cleared
mod Parts
