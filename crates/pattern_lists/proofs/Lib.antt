pub mod CountLaws
pub mod RowLaws
pub mod ListedPairs
pub mod PatternLists
pub mod Pattern
pub mod Laws
pub mod ListingLaws
pub mod PatternMarks
