pub mod Close
pub mod Exact
pub mod Laws
pub mod Promise
pub mod Sizes
pub mod Slots
pub mod Worked
