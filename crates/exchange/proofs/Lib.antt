pub mod Exchanges
pub mod Steps
