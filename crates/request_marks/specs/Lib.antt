-- The requests of each operation, marked as pairs.
pub mod RequestMarks
pub mod DiagonalMarks
pub mod OperatorRequests
pub mod OperatorMarks
pub mod CrossRequests
