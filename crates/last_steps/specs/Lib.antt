-- What a column's entries are finished with.
pub mod DivisorParts
