-- Levels of pairs in words of scratch, and their queue.
pub mod Levels
pub mod Closing
pub mod Back
pub mod Written
