-- The order of floats.
pub mod Order
