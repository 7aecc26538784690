-- The least closed set of pairs.
pub mod ClosedSet
pub mod Requests
pub mod Size
pub mod Examples
pub mod KeptSet
