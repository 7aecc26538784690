pub mod Examples
pub mod Single
pub mod TermBounds
pub mod Wider
pub mod Within
pub mod Worked
