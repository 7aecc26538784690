pub mod ClosedSet
pub mod Examples
pub mod FactorPattern
pub mod KeptSet
pub mod Requests
pub mod Size
