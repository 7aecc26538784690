-- The factor-pattern route over any arithmetic.
pub mod Scatter
pub mod ClosedPattern
pub mod Sums
pub mod Marks
pub mod Column
