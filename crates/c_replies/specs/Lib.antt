-- Answers as structs of numbers.
pub mod Numbers
