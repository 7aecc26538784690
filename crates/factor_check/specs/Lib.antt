-- Kept entries that a factor may not have.
pub mod Nonzero
pub mod Unfit
