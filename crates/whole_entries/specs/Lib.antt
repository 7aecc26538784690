-- Filling result lists in whole numbers: what it asks and leaves.
pub mod Filling
