-- Finding a row in a column of a result and a pair in the result, and the checks of its columns.
pub mod Reply
