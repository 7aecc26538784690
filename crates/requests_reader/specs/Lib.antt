-- Reading requests from a Matrix Market file.
pub mod HeaderLines
pub mod EntryLines
pub mod Reader
pub mod ReadLists
