-- The closure of requested pairs under their dependencies, and its diagnosis.
pub mod Nested
pub mod Covered
pub mod Queue
pub mod Closure
