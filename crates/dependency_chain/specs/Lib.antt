-- The chain from a requested pair to a pair of the closed set.
pub mod Chain
pub mod Laws
pub mod Answer
