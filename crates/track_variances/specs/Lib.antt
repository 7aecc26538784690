-- Variances along a track: what the call refuses and writes.
pub mod Track
pub mod Sizes
pub mod Close
pub mod Slots
pub mod Laws
pub mod Exact
