-- The factor route: the recurrence over the kept pattern.
pub mod ColumnMarks
pub mod Walk
pub mod Route
