-- Selected entries in whole numbers: refusals, answer and lists; what reads back, and that the engine in f64 gives the same numbers.
pub mod Call
pub mod Accepted
pub mod ReadBack
pub mod Agree
pub mod Engines
pub mod Examples
pub mod Worked
