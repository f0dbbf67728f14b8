pub mod Tests
pub mod Told
pub mod Answers
