pub mod Exchange
pub mod Walk
