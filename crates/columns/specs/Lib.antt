-- Compressed columns: checks, kept entries, operators.
pub mod Columns
pub mod Factor
pub mod Kept
pub mod Stored
pub mod Diagonal
pub mod Form
pub mod Pivots
pub mod WholeFactor
pub mod UnitDiagonals
pub mod Numbers
pub mod Operator
pub mod Examples
pub mod OperatorPair
