-- The lookup and the diagonal list.
pub mod Reply
pub mod DiagonalList
