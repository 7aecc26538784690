-- The kept entries of a factor.
pub mod Above
pub mod DiagonalIs
