pub mod Judgement
pub mod CountsInRow
pub mod Laws
