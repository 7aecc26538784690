-- How many values are negative, and the least.
pub mod Least
pub mod Laws
