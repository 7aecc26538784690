-- Requests written as a Matrix Market file.
pub mod Lines
pub mod Marked
pub mod Writer
pub mod Canonical
