-- The recurrence in whole numbers over a closed set, held to 2 ^ 53.
pub mod Number
pub mod Sums
pub mod ColumnSums
pub mod Route
