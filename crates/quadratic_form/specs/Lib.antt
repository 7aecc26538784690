-- The value of two operators' rows, vᵀXu, and of a row with itself, vᵀXv.
pub mod CrossValue
pub mod RowValue
pub mod ExactCross
pub mod ExactRow
