pub mod Rules
pub mod Answers
