pub mod Rounds
