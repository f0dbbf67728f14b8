pub mod Call
pub mod Refusal
