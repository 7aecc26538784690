pub mod SumLaws
pub mod ColumnSumLaws
pub mod PairLaws
pub mod FitLaws
pub mod EntryLaws
pub mod RowsLaws
pub mod ColumnLaws
