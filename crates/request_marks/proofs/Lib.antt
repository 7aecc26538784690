pub mod DiagonalLaws
pub mod OperatorLaws
pub mod CrossRequests
pub mod DiagonalMarks
pub mod Examples
pub mod OperatorRequests
