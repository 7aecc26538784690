-- Pairs of the lower triangle.
pub mod Pair
pub mod Marks
pub mod ColumnOrder
pub mod Scratch
pub mod Positions
