pub mod Lists
pub mod Linked
