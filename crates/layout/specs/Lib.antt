-- The result's layout from the marks of a set of pairs.
pub mod ColumnRows
pub mod Layout
