pub mod ForC
pub mod Same
