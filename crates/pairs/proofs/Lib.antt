pub mod ColumnOrder
pub mod Examples
pub mod Marks
pub mod Pair
pub mod Positions
pub mod Scratch
