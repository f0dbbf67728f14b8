mod Listing
mod Lowering
mod Walks
mod Seeding
mod Lists
pub mod Arranged
pub mod Cycle
