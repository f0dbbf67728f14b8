pub mod Handed
pub mod Known
