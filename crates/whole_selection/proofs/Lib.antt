pub mod Accepted
pub mod Agree
pub mod Engines
pub mod Examples
pub mod ReadBack
pub mod Worked
