-- A row whose weights are known within ranges: bounds on its variance, and what they bound.
pub mod Bounds
pub mod Examples
pub mod TermBounds
pub mod Wider
