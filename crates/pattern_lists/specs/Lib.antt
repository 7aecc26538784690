-- Pattern lists: the pairs of a factor or of an operator, ascending by row then column.
pub mod Listing
pub mod PatternMarks
pub mod ListedMarks
pub mod PatternLists
pub mod PatternCalls
