pub mod ClosedPattern
pub mod Column
pub mod Marks
pub mod Scatter
pub mod Sums
pub mod Values
