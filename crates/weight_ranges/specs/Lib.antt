-- Bounds on the variance of a row whose weights are known within ranges: what the call replies.
pub mod Ranges
pub mod Sizes
pub mod Repeats
pub mod Promise
pub mod Exact
