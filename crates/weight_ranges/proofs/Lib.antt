pub mod Exact
pub mod Laws
pub mod Promise
pub mod Repeats
pub mod Sizes
pub mod Worked
