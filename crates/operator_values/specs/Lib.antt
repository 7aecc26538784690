-- The values of an operator's rows.
pub mod Reading
pub mod Filled
pub mod Output
