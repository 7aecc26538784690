-- Answers as numbers.
pub mod Number
