pub mod CrossValue
pub mod ExactCross
pub mod ExactRow
pub mod Examples
pub mod Exchange
pub mod RowValue
